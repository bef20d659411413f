-- Commit: of the text that the keys show it is never refused; and it hands back these keys, or a shown text with a reason to keep it.
use Rattle.std.specs.Prelude.{Option, Some, None, Ok}
use mathlib.Core.Path.{◌≡◌, refl, sym, ap, ap₂, subst}
use mathlib.Core.Bool.{Bool, true, false, ◌&&◌}
use mathlib.Core.List.{List, [], ◌∷◌}
use Prim.Native.Nat.{ℕ, ◌+◌, ◌≤◌}
use native.Mathlib.Omega.{arith}
use lib.Dec.{T, eqb, eqb→eq}
use lib.ListN.{length}
use lib.Ieee.Fits.{and_l, and_r, and_i, eq→eqb}
use Rattle.rules.specs.TheWord.{Typed, most_keys, most_bytes, new_word, word_of, holding}
use Rattle.rules.specs.KeyRoles.{is_key}
use Rattle.rules.specs.TakingApart.{verdict}
use Rattle.rules.specs.Decision.{starts_with_đ, keeps, keep_if, handed_back}
use Rattle.rules.specs.CodePoints.{shown}
use Rattle.rules.specs.Refusals.{all, is_mode, same_bytes, table, refusal, NoneHolds, no_rows, not_this}
use Rattle.rules.specs.WhatComesBack.{typed, commit_call, commit_or, commit, granted_or, commit_answer}
use Rattle.rules.specs.HandedBack.{KeptSince, valid, closed, with_đ, untouched, HandedBack, the_keys, the_text}
use Rattle.rules.specs.declared.Refusal.{Refusal}
use Rattle.rules.proofs.Tests.{either}
use Rattle.rules.proofs.Range.{not_not, twice, not_over, in_range}
use Rattle.rules.proofs.Refused.{refusal_none}
use Rattle.rules.proofs.Typing.{new_held, list_held}
use Rattle.rules.proofs.TextFits.{few_bytes}

-- the same bytes
same_self : (bs : List ℕ) → T (same_bytes bs bs)
same_self [] = tt
same_self (b ∷ bs) = and_i (eqb b b) (same_bytes bs bs) (eq→eqb {a = b} {b = b} refl) (same_self bs)

pub same_bytes_law : (bs cs : List ℕ) → T (same_bytes bs cs) → bs ≡ cs
same_bytes_law [] [] t = refl
same_bytes_law [] (c ∷ cs) t = absurd t
same_bytes_law (b ∷ bs) [] t = absurd t
same_bytes_law (b ∷ bs) (c ∷ cs) t =
    ap₂ (λ (x : ℕ) (xs : List ℕ). x ∷ xs) (eqb→eq b c (and_l (eqb b c) (same_bytes bs cs) t)) (same_bytes_law bs cs (and_r (eqb b c) (same_bytes bs cs) t))

-- The text that accepted keys show is granted.
pub shown_is_granted : (m : ℕ) (ks : List ℕ) → T (is_mode m) → length ks ≤ most_keys → T (all (is_key m) ks) → commit_answer m ks (shown (typed m ks).state) ≡ Ok tt
unfolding commit_answer
shown_is_granted m ks mode few keys =
    let text = shown (typed m ks).state in
    let letters = (in_range (holding (new_word m) (typed m ks)) (list_held (new_word m) (word_of (new_word m)) ks (new_held m mode) (omega arith) keys).range).count in
    ap granted_or
    ((refusal_none (commit_call m ks text)).1
    (not_this tt (not_this (twice (is_mode m) mode) (not_this (not_over most_keys (0 + length ks) (omega arith))
    (not_this (not_over most_bytes (length text) (few_bytes (typed m ks).state letters)) (not_this (twice (all (is_key m) ks) keys)
    (not_this tt (not_this tt (not_this (twice (same_bytes text text) (same_self text)) (not_this tt no_rows))))))))))

kept_why : (z : Typed) → keeps z ≡ true → KeptSince z
unfolding keeps
kept_why z e =
    either (eqb z.acted 0 && eqb z.undone 0) _
    (λ t. untouched (eqb→eq z.acted 0 (and_l (eqb z.acted 0) (eqb z.undone 0) t)) (eqb→eq z.undone 0 (and_r (eqb z.acted 0) (eqb z.undone 0) t)))
    (either z.state.closed _ closed
    (either (starts_with_đ z.state.letters) (eqb (verdict z.state.letters z.state.tone) 0) with_đ (λ t. valid (eqb→eq (verdict z.state.letters z.state.tone) 0 t))))
    (subst T (sym e) tt)

-- the text of a commit that is granted is what the keys show
text_shown : (m : ℕ) (ks text : List ℕ) → NoneHolds (table (commit_call m ks text)) → text ≡ shown (typed m ks).state
text_shown m ks text (not_this a (not_this b (not_this c (not_this d (not_this e (not_this f (not_this g (not_this same n)))))))) =
    same_bytes_law text (shown (typed m ks).state) (not_not (same_bytes text (shown (typed m ks).state)) same)

-- What commit hands back where it is granted is these keys, or the shown text of a word that is kept, with the reason.
pub keys_or_kept_text : (m : ℕ) (ks text : List ℕ) → commit_answer m ks text ≡ (Ok tt) → HandedBack m ks (commit m ks text)
unfolding commit_answer commit
keys_or_kept_text m ks text = go (refusal (commit_call m ks text)) refl
  where
    chosen : (b : Bool) → keeps (typed m ks) ≡ b → text ≡ shown (typed m ks).state → HandedBack m ks (handed_back (keep_if b) text ks)
    chosen true e t = the_text t (kept_why (typed m ks) e)
    chosen false e t = the_keys refl

    go : (o : Option Refusal) → refusal (commit_call m ks text) ≡ o → granted_or o ≡ (Ok tt) → HandedBack m ks (commit_or o m ks text)
    go None e g = chosen (keeps (typed m ks)) refl (text_shown m ks text ((refusal_none (commit_call m ks text)).0 e))
    go (Some x) e g = let z : ◌≡◌ {A = ℕ} 0 1 = cc in absurd (omega arith)
