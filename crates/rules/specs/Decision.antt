-- 9 Keep or restore (docs/RULES.md): the decision on a word, and what commit hands back.
use Rattle.std.specs.Prelude.{Bool, true, false, ◌&&◌, ◌||◌, List, [], ◌∷◌, ℕ, eqb}
use Prim.Native.Char.{code}
use Rattle.rules.specs.Letters.{Letters, named, is}
use Rattle.rules.specs.TakingApart.{verdict}
use Rattle.rules.specs.TheWord.{Typed}
use Rattle.rules.specs.declared.Decision.{Decision}
use Rattle.rules.specs.declared.Decision.TheVariants.{Keep, Restore}

-- 9.1 A word starts with đ when its first letter is a d with a stroke, small or capital.
abbrev pub starts_with_đ : Letters → Bool
starts_with_đ [] = false
starts_with_đ (x ∷ xs) = is x (named (code "đ"))

-- 9.2 There are four reasons to keep a word: of its keys none acted and none undid; it is closed; it starts with đ;
-- its verdict is 0.
unfoldable pub keeps : Typed → Bool
keeps z =
    (eqb z.acted 0 && eqb z.undone 0) || (z.state.closed || (starts_with_đ z.state.letters || eqb (verdict z.state.letters z.state.tone) 0))

-- 9.3 For any of these reasons the decision is keep, and for none it is restore.
abbrev pub keep_if : Bool → Decision
keep_if true = Keep
keep_if false = Restore

abbrev pub decision : Typed → Decision
decision z = keep_if (keeps z)

-- 9.4 Keep hands back the shown text, restore the keys as they were typed.
abbrev pub handed_back : Decision → List ℕ → List ℕ → List ℕ
handed_back Keep text keys = text
handed_back Restore text keys = keys
