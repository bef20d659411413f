-- `syllable::nuclei::stands` meets its contract: for uơ; and else after qu, after no initial, and after any other.
use mathlib.Core.Path.{◌≡◌, refl, sym, ap, ◌∙◌}
use mathlib.Core.Bool.{Bool, true, false, not, ◌&&◌, ◌||◌, or-true, or-false}
use Prim.Native.Nat.{ℕ, ◌%◌}
use lib.Dec.{eqb, leb}
use borrow.Author.Tests.{eq-eqb, ne_eqb, le-leb}
use Rattle.rules.specs.Letters.{Letters, elem, word, words}
use Rattle.rules.specs.TakingApart.{implies, stands}
use Rattle.syllable.specs.Numbers.{num, nums, Packs}
use Rattle.rules.proofs.Bools.{and_true, and_false}
use Rattle.syllable.proofs.PackedWords.{same_is, one_is, none_is, begins_o}
use Rattle.syllable.proofs.Keys.{keys, no_elem}
use mathlib.Core.List.{[], ◌∷◌}
use Rattle.syllable.proofs.nuclei.stands.Goals as goal

module _ {p q : ℕ} {w v : Letters} (i : Packs p w) (n : Packs q v) where
  abbrev yê : Bool
  yê = elem q (nums (words "yê yêu"))

  abbrev o : Bool
  o = leb 4096 q && eqb (q % 512) (num (word "o"))

  abbrev after_h : Bool
  after_h = elem p (nums (words "h kh th"))

  -- the rule, by whether the nucleus is uơ, whether there is no initial, and whether it is qu
  rule : {uơ none qu : Bool} → uơ ≡ eqb q (num (word "uơ")) → none ≡ eqb p 0 → qu ≡ eqb p (num (word "qu")) → (implies yê (none || qu) && (not (qu && o) && implies uơ after_h)) ≡ stands w v
  rule d e f j =
      implies (one_is n (words "yê yêu") tt j) ((e ∙ none_is i) j || (f ∙ same_is i (word "qu") tt) j) &&
      (not ((f ∙ same_is i (word "qu") tt) j && begins_o n j) && implies ((d ∙ same_is n (word "uơ") tt) j) (one_is i (words "h kh th") tt j))

  is_uơ : q ≡ num (word "uơ") → after_h ≡ stands w v
  is_uơ e =
      ap (λ (b : Bool). not b && after_h) (and_false (eqb p (num (word "qu")))) ∙
      ap (λ (k : ℕ). implies (elem k (nums (words "yê yêu"))) (eqb p 0 || eqb p (num (word "qu"))) && (not (eqb p (num (word "qu")) && (leb 4096 k && eqb (k % 512) (num (word "o")))) && after_h)) (sym e) ∙
      rule (sym (eq-eqb q (num (word "uơ")) e)) refl refl

  module _ (no : q ≡ num (word "uơ") → ⊥) where
    not_uơ : false ≡ eqb q (num (word "uơ"))
    not_uơ = sym (ne_eqb q (num (word "uơ")) no)

    after_qu : p ≡ num (word "qu") → not o ≡ stands w v
    after_qu e = and_true (not o) ∙ ap (λ (b : Bool). b && (not o && true)) (sym (or-true (not yê))) ∙ rule not_uơ (ap (λ (k : ℕ). eqb k 0) (sym e)) (sym (eq-eqb p (num (word "qu")) e))

    after_other : (p ≡ num (word "qu") → ⊥) → (p ≡ 0 → ⊥) → not yê ≡ stands w v
    after_other m l = sym (or-false (not yê)) ∙ and_true _ ∙ rule not_uơ (sym (ne_eqb p 0 l)) (sym (ne_eqb p (num (word "qu")) m))

-- uơ, after none of h, kh and th
pub returns-in_default : goal.returns-in_default
returns-in_default c w v i n =
    no_elem c.args.ini (nums (words "h kh th")) (keys (words "h kh th") ∷ []) tt (c.in_default.in_default-own.rest.1, tt) ∙ is_uơ i n c.if-nuc-eq-UOW.true

pub returns-else-nuc-lt-NEXT : goal.returns-else-nuc-lt-NEXT
returns-else-nuc-lt-NEXT c w v i n =
    let k = c.args.nuc in
    ap (λ (t : Bool). not (t && eqb (k % 512) (num (word "o")))) (sym (le-leb 4096 k c.if-nuc-lt-NEXT.false)) ∙ after_qu i n c.if-nuc-eq-UOW.false c.in-962787.is

pub returns-then-nuc-ne-YEE : goal.returns-then-nuc-ne-YEE
returns-then-nuc-ne-YEE c w v i n =
    let k = c.args.nuc in
    let rest = c.in_default-ini.in_default-ini-own.rest in
    ap (λ (t : Bool). not (t || eqb k (num (word "yêu")))) (sym (ne_eqb k (num (word "yê")) c.if-nuc-ne-YEE.true)) ∙ after_other i n c.if-nuc-eq-UOW.false rest.0.1 rest.1

pub returns-else-nuc-ne-YEE : goal.returns-else-nuc-ne-YEE
returns-else-nuc-ne-YEE c w v i n =
    let k = c.args.nuc in
    let e = eq-eqb k (num (word "yê")) c.if-nuc-ne-YEE.false in
    let rest = c.in_default-ini.in_default-ini-own.rest in
    ap not e ∙ ap (λ (t : Bool). not (t || eqb k (num (word "yêu")))) (sym e) ∙ after_other i n c.if-nuc-eq-UOW.false rest.0.1 rest.1
