-- Commit, of whatever the contracts allow: the text that show writes is granted, and what is handed back is these keys, or a text with a reason to keep it.
use Rattle.std.specs.Prelude.{◌≡◌, List, [], ◌∷◌, ℕ, ◌≤◌, length, take, Result, ⊤}
use Rattle.rules.specs.TheWord.{most_bytes}
use Rattle.rules.specs.declared.TypeAll.{TypeAll}
use Rattle.rules.specs.AnswersInNumbers.{answered, write_says, commit_says}
use Rattle.rules.specs.HandedBack.{HandedBack}
use Rattle.promises.specs.ContractsAllow.{TypeAllows, ShowAllows, CommitAllows, QuestionAllows}
use Rattle.promises.specs.EachKey.{AcceptedKeys}
use Rattle.rules.specs.declared.Refusal.{Refusal}

-- Any accepted mode and keys, typed; the word shown into an output of 96 bytes or more; what was written is granted.
abbrev pub ShownIsGranted : Type 0
ShownIsGranted =
    (m : ℕ) (ks : List ℕ) → AcceptedKeys m ks → (r : TypeAll) → TypeAllows m ks r → (before after : List ℕ) (a : Result ℕ Refusal) → most_bytes ≤ length before
    → ShowAllows r.word before a after → (n : ℕ) × (write_says a ≡ answered (n ∷ [])) × ((c : Result ⊤ Refusal) → QuestionAllows m ks (take n after) c → commit_says c ≡ answered [])

-- Where commit is granted it hands back these keys, or the shown text of a word that is valid, closed, starts with đ, or had no act or undo.
abbrev pub KeptOrKeys : Type 0
KeptOrKeys = (m : ℕ) (ks text part : List ℕ) (c : Result ⊤ Refusal) → QuestionAllows m ks text c → commit_says c ≡ answered [] → CommitAllows m ks text part → HandedBack m ks part
