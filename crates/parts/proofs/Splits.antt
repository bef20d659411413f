-- The parts of a word as parts of the list of its numbers.
use mathlib.Core.Path.{◌≡◌, refl, sym, ap, ap₂, ◌∙◌}
use mathlib.Core.Bool.{Bool, true, false}
use mathlib.Core.List.{List, [], ◌∷◌, ◌++◌, map, append_assoc}
use Prim.Native.Nat.{ℕ, zero, suc, ◌+◌, ◌-◌, ◌≤◌}
use native.Mathlib.Omega.{arith}
use lib.Dec.{eqb}
use lib.ListN.{length, take, drop, length-append, length-drop, length-map}
use Rattle.std.proofs.lemmas.List.{take_all}
use lib.Seq.{take-append_seam, drop-append_seam}
use borrow.Author.Tests.{eq-eqb, ne_eqb}
use Rattle.rules.specs.Letters.{Letters, is_nil}
use Rattle.rules.specs.TakingApart.{front, past, before, run, joins, initial_of, nucleus_of, initial, nucleus, final, leftovers}
use Rattle.rules.specs.TheWord.{letter}
use Rattle.rules.proofs.Wholes.{split, halves, whole}
use Rattle.parts.specs.Ends.{parts_of}
use Rattle.parts.specs.declared.Parts.{Parts}
use Rattle.parts.proofs.Glides.{joins_none}

map_take : (n : ℕ) (s : List ℕ) → map letter (take n s) ≡ take n (map letter s)
map_take zero s = refl
map_take (suc n) [] = refl
map_take (suc n) (x ∷ xs) = ap (λ (l : Letters). letter x ∷ l) (map_take n xs)

map_drop : (n : ℕ) (s : List ℕ) → map letter (drop n s) ≡ drop n (map letter s)
map_drop zero s = refl
map_drop (suc n) [] = refl
map_drop (suc n) (x ∷ xs) = map_drop n xs

-- the part between two lengths
middle : (a b d : Letters) → take (length b) (drop (length a) (a ++ (b ++ d))) ≡ b
middle a b d = rw drop-append_seam (take-append_seam b d)

part : (s : List ℕ) (i k : ℕ) (a b d : Letters) → a ++ (b ++ d) ≡ map letter s → i ≡ length a → k ≡ length a + length b → map letter (take (k - i) (drop i s)) ≡ b
part s i k a b d e ei ek =
    let m : k - i ≡ length b = omega arith in
    map_take (k - i) (drop i s) ∙ ap (take (k - i)) (map_drop i s) ∙ (λ j. take (m j) (drop (ei j) (sym e j))) ∙ middle a b d

front_part : (s : List ℕ) (k : ℕ) (b d : Letters) → b ++ d ≡ map letter s → k ≡ length b → map letter (take k s) ≡ b
front_part s k b d e ek = map_take k s ∙ (λ j. take (ek j) (sym e j)) ∙ take-append_seam b d

-- an answer of `apart`, and the parts that it cuts
pub record Cut (s : List ℕ) (i n f : ℕ) : Type 0 where
  pub low : i ≤ n
  pub mid : n ≤ f
  pub high : f ≤ length s
  pub ini : map letter (take (i - 0) (drop 0 s)) ≡ initial (map letter s)
  pub nuc : map letter (take (n - i) (drop i s)) ≡ nucleus (map letter s)
  pub fin : map letter (take (f - n) (drop n s)) ≡ final (map letter s)
  pub none : eqb i n ≡ is_nil (nucleus (map letter s))
  pub left : eqb f (length s) ≡ is_nil (leftovers (map letter s))

pub nil_length : (w : Letters) (f n : ℕ) → n ≡ f + length w → eqb f n ≡ is_nil w
nil_length [] f n e = eq-eqb f n (omega arith)
nil_length (x ∷ xs) f n e = ne_eqb f n (omega arith)

pub cut : (s : List ℕ) (r : Parts) → r ≡ parts_of (map letter s) → Cut s r.initial r.nucleus r.end
cut s r e =
    let w = map letter s in
    let ei : r.initial ≡ length (initial w) = ap (λ (x : Parts). x.initial) e in
    let en : r.nucleus ≡ length (initial w) + length (nucleus w) = ap (λ (x : Parts). x.nucleus) e in
    let ef : r.end ≡ length (initial w) + length (nucleus w) + length (final w) = ap (λ (x : Parts). x.end) e in
    let l : length (initial w) + (length (nucleus w) + (length (final w) + length (leftovers w))) ≡ length s = sym (simp length-append) ∙ ap length (whole w) ∙ length-map s letter in
    record {
      low = omega arith;
      mid = omega arith;
      high = omega arith;
      ini = part s 0 r.initial [] (initial w) _ (whole w) refl (omega arith);
      nuc = part s r.initial r.nucleus (initial w) (nucleus w) _ (whole w) ei en;
      fin = part s r.nucleus r.end (initial w ++ nucleus w) (final w) (leftovers w) (append_assoc (initial w) (nucleus w) (final w ++ leftovers w) ∙ whole w) (en ∙ sym (length-append (initial w) (nucleus w))) (ef ∙ ap (λ (n : ℕ). n + length (final w)) (sym (length-append (initial w) (nucleus w))));
      none = nil_length (nucleus w) r.initial r.nucleus (omega arith);
      left = nil_length (leftovers w) r.end (length s) (omega arith);
    }

-- what stands from a place on
abbrev from : ℕ → List ℕ → List ℕ
from n s = take (length s - n) (drop n s)

from_is : (n : ℕ) (s : List ℕ) → from n s ≡ drop n s
from_is n s = take_all (length s - n) (drop n s) (omega (arith, length-drop n s))

-- where the runs end, and so the parts
module _ (s : List ℕ) (o v f : ℕ) (eo : o ≡ length (front false (map letter s))) (ev : v ≡ o + length (front true (map letter (from o s)))) (ef : f ≡ v + length (front false (map letter (from v s)))) where
  abbrev w : Letters
  w = map letter s

  o_is : o ≡ length (before w)
  o_is = omega arith

  past_o : map letter (drop o s) ≡ past false w
  past_o = map_drop o s ∙ (λ j. drop (o_is j) (sym (split false w) j)) ∙ drop-append_seam (before w) (past false w)

  v_is : v ≡ o + length (run w)
  v_is = ev ∙ ap (λ (l : Letters). o + length (front true l)) (ap (map letter) (from_is o s) ∙ past_o)

  past_v : map letter (drop v s) ≡ past true (past false w)
  past_v =
      let e : v ≡ length (before w ++ run w) = v_is ∙ ap (λ (n : ℕ). n + length (run w)) o_is ∙ sym (length-append (before w) (run w)) in
      map_drop v s ∙ (λ j. drop (e j) (sym (append_assoc (before w) (run w) (past true (past false w)) ∙ ap (λ (l : Letters). before w ++ l) (split true (past false w)) ∙ split false w) j)) ∙ drop-append_seam (before w ++ run w) (past true (past false w))

  f_is : f ≡ v + length (final w)
  unfolding final
  f_is = ef ∙ ap (λ (l : Letters). v + length (front false l)) (ap (map letter) (from_is v s) ∙ past_v)

  pub ends : (o ≤ v) × (v ≤ f) × (f ≤ length s)
  ends =
      let l : length (before w) + (length (run w) + (length (final w) + length (leftovers w))) ≡ length s = sym (simp length-append) ∙ ap length (halves w) ∙ length-map s letter in
      omega (arith, o_is, v_is, f_is)

  pub joins_is : joins (map letter (take o s)) (map letter (take (v - o) (drop o s))) ≡ joins (before w) (run w)
  joins_is =
      ap₂ joins (front_part s o (before w) _ (halves w) o_is) (part s o v (before w) (run w) _ (halves w) o_is (v_is ∙ ap (λ (n : ℕ). n + length (run w)) o_is))

  -- the parts, by whether the first of the run goes to the initial
  abbrev parts_by : Bool → Parts
  parts_by b =
      record {
        initial = length (initial_of b (before w) (run w));
        nucleus = length (initial_of b (before w) (run w)) + length (nucleus_of b (run w));
        end = length (initial_of b (before w) (run w)) + length (nucleus_of b (run w)) + length (final w);
      }

  by : (b : Bool) (i : ℕ) → joins (before w) (run w) ≡ b → i ≡ length (initial_of b (before w) (run w)) → v ≡ i + length (nucleus_of b (run w)) → record { initial = i; nucleus = v; end = f } ≡ parts_of w
  unfolding initial nucleus
  by b i e ei en =
      let ev : v ≡ length (initial_of b (before w) (run w)) + length (nucleus_of b (run w)) = en ∙ ap (λ (n : ℕ). n + length (nucleus_of b (run w))) ei in
      (λ j. record { initial = ei j; nucleus = ev j; end = (f_is ∙ ap (λ (n : ℕ). n + length (final w)) ev) j }) ∙ ap parts_by (sym e)

  pub plain : joins (before w) (run w) ≡ false → record { initial = o; nucleus = v; end = f } ≡ parts_of w
  plain e = by false o e o_is v_is

  pub joined : joins (before w) (run w) ≡ true → (o + 1 ≤ v) × (record { initial = o + 1; nucleus = v; end = f } ≡ parts_of w)
  joined e = let l = go (run w) v_is e in (l.0, by true (o + 1) e l.1 l.2)
    where
      go : (u : Letters) → v ≡ o + length u → joins (before w) u ≡ true → (o + 1 ≤ v) × (o + 1 ≡ length (initial_of true (before w) u)) × (v ≡ (o + 1) + length (nucleus_of true u))
      go [] eu t = let z : ◌≡◌ {A = ℕ} 0 1 = cc (joins_none (before w)) in absurd (omega arith)
      go (x ∷ xs) eu t = (omega arith, simp length-append (omega (arith, o_is)), omega arith)
