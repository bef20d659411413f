-- What the entries answer where nothing is refused: of a word in range its text, place, verdict and decision; of a list of keys a word in range.
use Rattle.std.specs.Prelude.{Option, Some, None, Result, Ok, Err}
use mathlib.Core.Path.{◌≡◌, refl, sym, ap, ◌∙◌}
use mathlib.Core.Bool.{false}
use mathlib.Core.List.{List}
use Prim.Native.Nat.{ℕ, ◌+◌, ◌-◌, ◌≤◌}
use native.Mathlib.Omega.{arith}
use borrow.Author.Tests.{le-ltb}
use lib.Dec.{nltb→le}
use lib.ListN.{length, take}
use Rattle.rules.specs.TakingApart.{verdict}
use Rattle.rules.specs.TonePlace.{tone_place}
use Rattle.rules.specs.TheWord.{most_keys, most_bytes, new_word, word_of, at_front, holding}
use Rattle.rules.specs.KeyRoles.{is_key}
use Rattle.rules.specs.CodePoints.{shown}
use Rattle.rules.specs.Decision.{decision}
use Rattle.rules.specs.Refusals.{all, is_mode, out_of_range, table, refusal, NoneHolds, not_this}
use Rattle.rules.specs.WhatComesBack.{typed, type_call, type_or, type_all, show, Written, verdict_answer, place_answer, decision_answer}
use Rattle.rules.specs.declared.Word.{Word}
use Rattle.rules.specs.declared.Refusal.{Refusal}
use Rattle.rules.specs.declared.Decision.{Decision}
use Rattle.rules.proofs.Tests.{is_false}
use Rattle.rules.proofs.Refused.{refusal_none}
use Rattle.rules.proofs.StaysInRange.{read_front}
use Rattle.rules.proofs.Records.{word_held}
use Rattle.rules.proofs.Typing.{Held, new_held, kept_keys, list_held}
use Rattle.rules.proofs.Range.{not_not, in_range}
use Rattle.rules.proofs.TextFits.{text_fits}

-- a word in range
module _ (w : Word) (range : out_of_range w ≡ false) where
  abbrev its_text : List ℕ
  its_text = shown (word_of w).state

  pub shows : (out : List ℕ) → most_bytes ≤ length out → show w out ≡ record { answer = Ok (length its_text); output = at_front its_text out }
  unfolding show refusal
  shows out room = simp (range, le-ltb (length out) (length (shown (word_of w).state)) (omega (arith, room, text_fits w range)))

  pub finds : place_answer w ≡ Ok (tone_place (word_of w).state.letters w.tone)
  unfolding place_answer refusal
  finds = simp range

  pub judges : verdict_answer w ≡ Ok (verdict (word_of w).state.letters w.tone)
  unfolding verdict_answer refusal
  judges = simp range

  pub decides : decision_answer w ≡ Ok (decision (word_of w))
  unfolding decision_answer refusal
  decides = simp range

  -- so an answer is no refusal, and gives the value
  module _ (out : List ℕ) (room : most_bytes ≤ length out) (r : Result ℕ Refusal) (a : r ≡ (show w out).answer) where
    pub is_written : (x : Refusal) → r ≡ Err x → ⊥
    is_written x d = let f = sym d ∙ a ∙ ap (λ (y : Written). y.answer) (shows out room) in let z : ◌≡◌ {A = ℕ} 0 1 = cc in omega arith

    module _ (n : ℕ) (d : r ≡ Ok n) where
      pub so_long : n ≡ length its_text
      so_long = let f = sym d ∙ a ∙ ap (λ (y : Written). y.answer) (shows out room) in cc

      pub its_front : (buffer : List ℕ) → buffer ≡ (show w out).output → take (n - 0) buffer ≡ its_text
      its_front buffer b =
          let m : length its_text ≡ n - 0 = omega (arith, so_long) in
          ap (take (n - 0)) (b ∙ ap (λ (y : Written). y.output) (shows out room)) ∙ read_front its_text out (n - 0) m

    pub in_front : (show w out).output ≡ at_front its_text out
    in_front = ap (λ (y : Written). y.output) (shows out room)

  module _ (r : Result (Option ℕ) Refusal) (a : r ≡ place_answer w) where
    pub is_found : (x : Refusal) → r ≡ Err x → ⊥
    is_found x d = let f = sym d ∙ a ∙ finds in let z : ◌≡◌ {A = ℕ} 0 1 = cc in omega arith

    pub its_place : (p : Option ℕ) → r ≡ Ok p → p ≡ tone_place (word_of w).state.letters w.tone
    its_place p d = let f = sym d ∙ a ∙ finds in cc

  module _ (r : Result ℕ Refusal) (a : r ≡ verdict_answer w) where
    pub is_judged : (x : Refusal) → r ≡ Err x → ⊥
    is_judged x d = let f = sym d ∙ a ∙ judges in let z : ◌≡◌ {A = ℕ} 0 1 = cc in omega arith

    pub its_verdict : (v : ℕ) → r ≡ Ok v → v ≡ verdict (word_of w).state.letters w.tone
    its_verdict v d = let f = sym d ∙ a ∙ judges in cc

  module _ (r : Result Decision Refusal) (a : r ≡ decision_answer w) where
    pub is_decided : (x : Refusal) → r ≡ Err x → ⊥
    is_decided x d = let f = sym d ∙ a ∙ decides in let z : ◌≡◌ {A = ℕ} 0 1 = cc in omega arith

    pub its_decision : (x : Decision) → r ≡ Ok x → x ≡ decision (word_of w)
    its_decision x d = let f = sym d ∙ a ∙ decides in cc

-- a list of keys
module _ (m : ℕ) (ks : List ℕ) where
  pub refused_as : (x : Refusal) → (type_all m ks).answer ≡ Err x → refusal (type_call m ks) ≡ Some x
  unfolding type_all
  refused_as x = go (refusal (type_call m ks))
    where
      go : (o : Option Refusal) → (type_or o m ks).answer ≡ Err x → o ≡ Some x
      go None e = let z : ◌≡◌ {A = ℕ} 0 1 = cc in absurd (omega arith)
      go (Some y) e = let f : y ≡ x = cc in ap (λ (u : Refusal). Some u) f

  module _ (a : (type_all m ks).answer ≡ (Ok tt)) where
    pub not_refused : refusal (type_call m ks) ≡ None
    unfolding type_all
    not_refused = go (refusal (type_call m ks)) a
      where
        go : (o : Option Refusal) → (type_or o m ks).answer ≡ (Ok tt) → o ≡ None
        go None e = refl
        go (Some y) e = let z : ◌≡◌ {A = ℕ} 0 1 = cc in absurd (omega arith)

    pub typed_as : (type_all m ks).word ≡ holding (new_word m) (typed m ks)
    unfolding type_all
    typed_as = ap (λ (o : Option Refusal). (type_or o m ks).word) not_refused

    held_by : NoneHolds (table (type_call m ks)) → Held (new_word m) (typed m ks)
    held_by (not_this range (not_this mode (not_this full (not_this text (not_this byte more))))) =
        list_held (new_word m) (word_of (new_word m)) ks (new_held m (not_not (is_mode m) mode)) (nltb→le most_keys (0 + length ks) full) (not_not (all (is_key m) ks) byte)

    pub typed_held : Held (new_word m) (typed m ks)
    typed_held = held_by ((refusal_none (type_call m ks)).0 not_refused)

    pub typed_in_range : out_of_range (type_all m ks).word ≡ false
    typed_in_range = ap out_of_range typed_as ∙ is_false (out_of_range (holding (new_word m) (typed m ks))) typed_held.range

    pub typed_word : word_of (type_all m ks).word ≡ typed m ks
    typed_word = ap word_of typed_as ∙ word_held (new_word m) (typed m ks) typed_held.fine.letters typed_held.abreast

    -- of which there are at most 32, and no more letters than keys
    pub few_keys : length ks ≤ most_keys
    few_keys = omega (arith, (in_range (holding (new_word m) (typed m ks)) typed_held.range).typed, kept_keys (word_of (new_word m)) ks)

    pub fewer_letters : length (typed m ks).state.letters ≤ length ks
    fewer_letters = omega (arith, (in_range (holding (new_word m) (typed m ks)) typed_held.range).fewer, kept_keys (word_of (new_word m)) ks)
