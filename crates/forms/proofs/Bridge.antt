-- A word whose verdict is 0 passed every check, is its initial, nucleus and final, and these are an initial, a nucleus and a final of the tables that make a form.
use mathlib.Core.Path.{◌≡◌, refl, sym, ap, ap₂, subst, ◌∙◌}
use mathlib.Core.Bool.{Bool, true, false, not, ◌&&◌, ◌||◌}
use mathlib.Core.List.{List, [], ◌∷◌, ◌++◌, append-nil}
use Prim.Native.Nat.{ℕ}
use Prim.Native.Char.{code}
use lib.Dec.{T, eqb}
use lib.Ieee.Fits.{and_i, and_l, and_r, eq→eqb}
use Rattle.rules.specs.Letters.{Letter, Letters, named, is, same, some_word, one_of, is_nil, first_base}
use Rattle.rules.specs.TakingApart.{before, run, plain_u, i_and_another, joins, with_first, rest, initial_of, nucleus_of, initial, nucleus, final, leftovers, initials, fit, finals, Row, rows, takes, stands, some_row, is_this, listed, fits, check, first_that_holds, verdict}
use Rattle.rules.proofs.Wholes.{whole}
use Rattle.forms.specs.Forms.{gather, gather_rows, those_if, with_final, may_follow, with_nucleus, with_initial, all_forms, capitals}
use Rattle.rules.proofs.Bools.{either, and_if, or_so}
use Rattle.forms.proofs.Cases.{same_cased, same_append, fit_cased, stands_cased, joins_cased, takes_cased}

-- the checks that a verdict of 0 passed
pub record Passed (w : Letters) (t : ℕ) : Type 0 where
  pub vowels : T (not (is_nil (nucleus w)))
  pub known : T (one_of (initial w) initials)
  pub whole : T (is_nil (leftovers w))
  pub suits : T (fit (initial w) (first_base (nucleus w)))
  pub ends : T (one_of (final w) finals)
  pub list : T (listed (initial w) (nucleus w) (final w))
  pub tone : T (fits (final w) t)

-- the verdict by what the seven checks ask: is the nucleus empty; the initial known; no leftovers; does it fit; the final known; the nucleus listed; the tone fits
abbrev pub by_checks : Bool → Bool → Bool → Bool → Bool → Bool → Bool → ℕ
by_checks e i n f g l s = first_that_holds (check 1 e ∷ check 2 (not i) ∷ check 3 (not n) ∷ check 4 (not f) ∷ check 5 (not g) ∷ check 6 (not l) ∷ check 7 (not s) ∷ [])

pub passed : (w : Letters) (t : ℕ) → verdict w t ≡ 0 → Passed w t
unfolding verdict
passed w t v =
    let (a, b, c, d, e, f, g) =
    go (is_nil (nucleus w)) (one_of (initial w) initials) (is_nil (leftovers w)) (fit (initial w) (first_base (nucleus w))) (one_of (final w) finals) (listed (initial w) (nucleus w) (final w)) (fits (final w) t)
    (eq→eqb v) in
    record { vowels = a; known = b; whole = c; suits = d; ends = e; list = f; tone = g }
  where
    go : (e i n f g l s : Bool) → T (eqb (by_checks e i n f g l s) 0) → T (not e) × T i × T n × T f × T g × T l × T s
    go false true true true true true true h = (tt, tt, tt, tt, tt, tt, tt)
    go false false n f g l s h = elim h [ ]
    go false true false f g l s h = elim h [ ]
    go false true true false g l s h = elim h [ ]
    go false true true true false l s h = elim h [ ]
    go false true true true true false s h = elim h [ ]
    go false true true true true true false h = elim h [ ]
    go true i n f g l s h = elim h [ ]

-- a word without leftovers is its initial, nucleus and final
nil : (w : Letters) → T (is_nil w) → w ≡ []
nil [] t = refl
nil (_ ∷ _) t = elim t [ ]

pub parts : (w : Letters) → T (is_nil (leftovers w)) → initial w ++ (nucleus w ++ final w) ≡ w
parts w t = ap (λ (z : Letters). initial w ++ (nucleus w ++ z)) (sym (append-nil (final w)) ∙ ap (◌++◌ (final w)) (sym (nil (leftovers w) t))) ∙ whole w

-- the initial and the nucleus of a word do not join once more
two_letters : (x y z : Letter) (w : Letters) → T (same (x ∷ y ∷ w) (z ∷ [])) → T false
two_letters x y z w = go (is x z)
  where
    go : (b : Bool) → T (elim b [ true ↦ false | false ↦ false ]) → T false
    go true t = t
    go false t = t

abbrev joins_if : Bool → Bool → Bool → Bool → Bool
joins_if q u g i = (q && u) || (g && i)

no_join : (q u g i : Bool) → (T q → T false) → (T g → T false) → joins_if q u g i ≡ false
no_join true u g i h k = absurd (h tt)
no_join false u true i h k = absurd (k tt)
no_join false u false i h k = refl

joins_two : (x y : Letter) (w v : Letters) → joins (x ∷ y ∷ w) v ≡ false
unfolding joins
joins_two x y w v =
    no_join (same (x ∷ y ∷ w) (named (code "q") ∷ [])) (plain_u v) (same (x ∷ y ∷ w) (named (code "g") ∷ [])) (i_and_another v) (two_letters x y (named (code "q")) w) (two_letters x y (named (code "g")) w)

joins_none : (w : Letters) → T (joins w []) → T false
unfolding joins
joins_none w = go (same w (named (code "q") ∷ [])) (same w (named (code "g") ∷ []))
  where
    go : (a b : Bool) → T (joins_if a false b false) → T false
    go true true t = t
    go true false t = t
    go false true t = t
    go false false t = t

joined_once : (b r : Letters) → joins (initial_of (joins b r) b r) (nucleus_of (joins b r) r) ≡ false
unfolding joins
joined_once b r = go (joins b r) refl
  where
    first_moved : (b r : Letters) → T (joins b r) → joins (with_first b r) (rest r) ≡ false
    first_moved (x ∷ b) [] t = absurd (joins_none (x ∷ b) t)
    first_moved (x ∷ []) (y ∷ r) t = joins_two x y [] r
    first_moved (x ∷ z ∷ b) (y ∷ r) t = absurd (subst T (joins_two x z b (y ∷ r)) t)
    first_moved [] _ t = elim t [ ]

    go : (c : Bool) → joins b r ≡ c → joins (initial_of c b r) (nucleus_of c r) ≡ false
    go true e = first_moved b r (subst T (sym e) tt)
    go false e = e

-- one of a list that is gathered
in_first : (h : Letters → Bool) (xs ys : List Letters) → T (some_word h xs) → T (some_word h (xs ++ ys))
in_first h (x ∷ xs) ys t = go (h x) t (in_first h xs ys)
  where
    go : (b : Bool) → T (elim b [ true ↦ true | false ↦ some_word h xs ]) → (T (some_word h xs) → T (some_word h (xs ++ ys))) → T (elim b [ true ↦ true | false ↦ some_word h (xs ++ ys) ])
    go true t k = tt
    go false t k = k t
in_first h [] ys t = elim t [ ]

in_second : (h : Letters → Bool) (xs ys : List Letters) → T (some_word h ys) → T (some_word h (xs ++ ys))
in_second h [] ys t = t
in_second h (x ∷ xs) ys t = go (h x) (in_second h xs ys t)
  where
    go : (b : Bool) → T (some_word h (xs ++ ys)) → T (elim b [ true ↦ true | false ↦ some_word h (xs ++ ys) ])
    go true t = tt
    go false t = t

in_those : (h : Letters → Bool) (c : Bool) (ws : List Letters) → T c → T (some_word h ws) → T (some_word h (those_if c ws))
in_those h true ws t u = u
in_those h false ws t u = elim t [ ]

gathered : (h f : Letters → Bool) (k : Letters → List Letters) (zs : List Letters) → ((z : Letters) → T (f z) → T (some_word h (k z))) → T (some_word f zs) → T (some_word h (gather k zs))
gathered h f k (z ∷ zs) g t = either (f z) (some_word f zs) (λ u. in_first h (k z) (gather k zs) (g z u)) (λ u. in_second h (k z) (gather k zs) (gathered h f k zs g u)) t
gathered h f k [] g t = elim t [ ]

gathered_rows : (h : Letters → Bool) (f : Row → Letters → Bool) (k : Row → Letters → List Letters) (rs : List Row) →
    ((r : Row) (z : Letters) → T (f r z) → T (some_word h (k r z))) → T (some_row f rs) → T (some_word h (gather_rows k rs))
gathered_rows h f k (r ∷ rs) g t =
    either (some_word (f r) r.nuclei) (some_row f rs) (λ u. in_first h (gather (k r) r.nuclei) (gather_rows k rs) (gathered h (f r) (k r) r.nuclei (g r) u))
    (λ u. in_second h (gather (k r) r.nuclei) (gather_rows k rs) (gathered_rows h f k rs g u)) t
gathered_rows h f k [] g t = elim t [ ]

-- so a word that passed the checks is one of the forms
module _ (w : Letters) (t : ℕ) (s : Passed w t) where
  with_final_law : (i : Letters) → T (same (initial w) i) → (r : Row) (n : Letters) → T (same (nucleus w) n) → T (takes (initial w) r n (final w)) →
      (f : Letters) → T (same (final w) f) → T (some_word (same w) (with_final i r n f))
  with_final_law i si r n sn ok f sf =
      in_those (same w) (takes i r n f) ((i ++ (n ++ f)) ∷ [])
      (subst T (ap₂ (λ (a b : Letters). takes a r n b) (same_cased (initial w) i si) (same_cased (final w) f sf) ∙ takes_cased (capitals (initial w)) i n (capitals (final w)) r f) ok)
      (or_so (same w (i ++ (n ++ f))) false (subst (λ (z : Letters). T (same z (i ++ (n ++ f)))) (parts w s.whole) (same_append (initial w) (nucleus w ++ final w) i (n ++ f) si (same_append (nucleus w) (final w) n f sn sf))))

  may_follow_law : (i n : Letters) → T (same (initial w) i) → T (same (nucleus w) n) → T (stands (initial w) n) → T (may_follow i n)
  unfolding initial nucleus
  may_follow_law i n si sn ok =
      let p = capitals (initial w) in
      let q = capitals (nucleus w) in
      let e = same_cased (initial w) i si in
      let d = same_cased (nucleus w) n sn in
      let j : joins i n ≡ false = sym (ap₂ joins e d ∙ joins_cased p i n q) ∙ joined_once (before w) (run w) in
      and_i (fit i (first_base n)) (stands i n && not (joins i n)) (subst T (ap₂ (λ (a b : Letters). fit a (first_base b)) e d ∙ fit_cased p i n q) s.suits)
      (and_i (stands i n) (not (joins i n)) (subst T (ap (λ (a : Letters). stands a n) e ∙ stands_cased p i n) ok) (subst (λ (b : Bool). T (not b)) (sym j) tt))

  with_nucleus_law : (i : Letters) → T (same (initial w) i) → (r : Row) (n : Letters) → T (is_this (initial w) (nucleus w) (final w) r n) → T (some_word (same w) (with_nucleus i r n))
  with_nucleus_law i si r n h =
      let (sn, ok) = and_if (same (nucleus w) n) (stands (initial w) n && takes (initial w) r n (final w)) h in
      in_those (same w) (may_follow i n) (gather (with_final i r n) finals) (may_follow_law i n si sn (and_l (stands (initial w) n) (takes (initial w) r n (final w)) ok))
      (gathered (same w) (same (final w)) (with_final i r n) finals (with_final_law i si r n sn (and_r (stands (initial w) n) (takes (initial w) r n (final w)) ok)) s.ends)

  pub is_form : T (one_of w all_forms)
  unfolding all_forms listed
  is_form = gathered (same w) (same (initial w)) with_initial initials (λ i si. gathered_rows (same w) (is_this (initial w) (nucleus w) (final w)) (with_nucleus i) rows (with_nucleus_law i si) s.list) s.known
