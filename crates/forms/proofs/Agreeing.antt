-- Letters that agree with a valid syllable, each as it is there or bare, are admitted: so a valid syllable is, and so are its bare letters.
use mathlib.Core.Path.{◌≡◌, refl, sym, ap, ap₂, subst, ◌∙◌}
use mathlib.Core.Bool.{Bool, true, false, not, ◌&&◌, ◌||◌}
use mathlib.Core.List.{List, [], ◌∷◌, ◌++◌}
use Prim.Native.Nat.{ℕ}
use Prim.Native.Char.{code}
use lib.Dec.{T, eqb, eqb→eq}
use lib.Ieee.Fits.{and_i, and_l, and_r}
use Rattle.rules.specs.Letters.{Letter, Letters, plain, stroke, word, is, same, one_of, is_nil, first_base}
use Rattle.rules.specs.TakingApart.{is_kind, front_if, front, past_if, past, before, run, plain_u, i_and_another, joins, initial_of, nucleus_of, initial, nucleus, final, leftovers, initials, fit, finals, Row, rows, takes, stands, some_row, is_this, listed, check, first_that_holds, agrees_at, agrees, could_be, some_agrees, admitted, verdict}
use Rattle.rules.specs.KeyRoles.{shaped}
use Rattle.rules.proofs.Edits.{dee}
use Rattle.rules.proofs.Tests.{either as or_else, or_l, or_r, some_row_so}
use Rattle.rules.proofs.Tests.{is_true}
use Rattle.forms.specs.Forms.{capitals, cased_as}
use Rattle.forms.proofs.KeyCourses.{bare}
use Rattle.rules.proofs.Bools.{and_if, and_so}
use Rattle.forms.proofs.SomeAndEvery.{meet}
use Rattle.forms.proofs.Cases.{same_cased}
use Rattle.forms.proofs.Bridge.{Passed, passed}

pub data Agrees : Letters → Letters → Type 0 where
  end : Agrees [] []
  kept : {x : Letter} {u w : Letters} → Agrees u w → Agrees (x ∷ u) (x ∷ w)
  bared : {x : Letter} {u w : Letters} → Agrees u w → Agrees (shaped plain x ∷ u) (x ∷ w)

pub self_agrees : (w : Letters) → Agrees w w
self_agrees [] = end
self_agrees (x ∷ w) = kept (self_agrees w)

pub bare_agrees : (w : Letters) → Agrees (bare w) w
bare_agrees [] = end
bare_agrees (x ∷ w) = bared (bare_agrees w)

-- the parts agree
kept_if : (b : Bool) (x : Letter) {u w : Letters} → Agrees u w → Agrees (front_if b x u) (front_if b x w)
kept_if true x a = kept a
kept_if false x a = end

bared_if : (b : Bool) (x : Letter) {u w : Letters} → Agrees u w → Agrees (front_if b (shaped plain x) u) (front_if b x w)
bared_if true x a = bared a
bared_if false x a = end

front_agrees : (v : Bool) {u w : Letters} → Agrees u w → Agrees (front v u) (front v w)
front_agrees v end = end
front_agrees v (kept {x = x} a) = kept_if (is_kind v x.base) x (front_agrees v a)
front_agrees v (bared {x = x} a) = bared_if (is_kind v x.base) x (front_agrees v a)

past_if_law : (b : Bool) {x y : Letter} {u w u' w' : Letters} → Agrees (x ∷ u) (y ∷ w) → Agrees u' w' → Agrees (past_if b x u u') (past_if b y w w')
past_if_law true a p = p
past_if_law false a p = a

past_agrees : (v : Bool) {u w : Letters} → Agrees u w → Agrees (past v u) (past v w)
past_agrees v end = end
past_agrees v (kept {x = x} a) = past_if_law (is_kind v x.base) (kept a) (past_agrees v a)
past_agrees v (bared {x = x} a) = past_if_law (is_kind v x.base) (bared a) (past_agrees v a)

nil_agrees : {u w : Letters} → Agrees u w → is_nil u ≡ is_nil w
nil_agrees end = refl
nil_agrees (kept a) = refl
nil_agrees (bared a) = refl

first_agrees : {u w : Letters} → Agrees u w → first_base u ≡ first_base w
first_agrees end = refl
first_agrees (kept a) = refl
first_agrees (bared a) = refl

-- with plain letters they are equal
abbrev all_plain : Letters → Bool
all_plain [] = true
all_plain (x ∷ xs) = eqb x.shape plain && all_plain xs

plain_equal : {u w : Letters} → Agrees u w → T (all_plain w) → u ≡ w
plain_equal end t = refl
plain_equal (kept {x = x} {w = w} a) t = ap (◌∷◌ x) (plain_equal a (and_r (eqb x.shape plain) (all_plain w) t))
plain_equal (bared {x = x} {w = w} a) t =
    ap₂ (λ (sh : ℕ) (v : Letters). shaped sh x ∷ v) (sym (eqb→eq x.shape plain (and_l (eqb x.shape plain) (all_plain w) t))) (plain_equal a (and_r (eqb x.shape plain) (all_plain w) t))

cased_plain : (cs : List Bool) (z : Letters) → all_plain (cased_as cs z) ≡ all_plain z
cased_plain cs [] = refl
cased_plain cs (x ∷ z) = ap (λ (b : Bool). eqb x.shape plain && b) (cased_plain _ z)

same_plain : (w z : Letters) → T (same w z) → T (all_plain z) → T (all_plain w)
same_plain w z t p = subst T (sym (ap all_plain (same_cased w z t) ∙ cased_plain (capitals w) z)) p

-- of an initial of the tables: the same, or d for đ
data Onset : Letters → Letters → Type 0 where
  same_onset : {a : Letters} → Onset a a
  d_for_đ : (c : Bool) → Onset (dee plain c ∷ []) (dee stroke c ∷ [])

abbrev plain_or_đ : Letters → Bool
plain_or_đ z = all_plain z || same z (word "đ")

onset_đ : {a b : Letters} (c : Bool) → Agrees a b → b ≡ dee stroke c ∷ [] → Onset a b
onset_đ c a e = subst (Onset _) (sym e) (go (subst (Agrees _) e a))
  where
    go : {a : Letters} → Agrees a (dee stroke c ∷ []) → Onset a (dee stroke c ∷ [])
    go (kept end) = same_onset
    go (bared end) = d_for_đ c

onset_of : {a b : Letters} (z : Letters) → Agrees a b → T (same b z) → T (plain_or_đ z) → Onset a b
onset_of {a} {b} z g s t =
    or_else (all_plain z) (same z (word "đ")) (λ p. subst (λ (y : Letters). Onset y b) (sym (plain_equal g (same_plain b z s p))) same_onset)
    (λ d. onset_đ _ g (same_cased b z s ∙ ap (cased_as (capitals b)) (same_cased z (word "đ") d))) t

onset : {a b : Letters} → Agrees a b → T (one_of b initials) → Onset a b
onset {b = b} g k = let m = meet (same b) plain_or_đ initials k tt in onset_of m.here g m.one m.other

onset_known : {a b : Letters} → Onset a b → T (one_of b initials) → T (one_of a initials)
onset_known same_onset k = k
onset_known (d_for_đ c) k = tt

onset_fit : {a b : Letters} (v : ℕ) → Onset a b → fit b v ≡ fit a v
unfolding fit
onset_fit v same_onset = refl
onset_fit v (d_for_đ c) = refl

onset_stands : {a b : Letters} (z : Letters) → Onset a b → stands b z ≡ stands a z
onset_stands z same_onset = refl
onset_stands z (d_for_đ c) = refl

onset_takes : {a b : Letters} (r : Row) (z f : Letters) → Onset a b → takes b r z f ≡ takes a r z f
onset_takes r z f same_onset = refl
onset_takes r z f (d_for_đ c) = refl

-- qu and gi join in both or in neither
u_agrees : {u w : Letters} → Agrees u w → T (plain_u w) → T (plain_u u)
u_agrees end t = t
u_agrees (kept a) t = t
u_agrees (bared {x = x} a) t = and_i (eqb x.base (code "u")) true (and_l (eqb x.base (code "u")) (eqb x.shape plain) t) tt

i_agrees : {u w : Letters} → Agrees u w → i_and_another w ≡ i_and_another u
i_agrees end = refl
i_agrees (kept {x = x} a) = ap (λ (b : Bool). eqb x.base (code "i") && not b) (sym (nil_agrees a))
i_agrees (bared {x = x} a) = ap (λ (b : Bool). eqb x.base (code "i") && not b) (sym (nil_agrees a))

no_q : (b : Letters) → T (one_of b initials) → T (same b (word "q")) → T false
no_q b k t = subst (λ (z : Letters). T (one_of z initials)) (same_cased b (word "q") t) k

module _ {a b u w : Letters} (g : Agrees a b) (h : Agrees u w) where
  same_as : (z : Letters) → T (all_plain z) → T (same b z) → T (same a z)
  same_as z p t = subst (λ (y : Letters). T (same y z)) (sym (plain_equal g (same_plain b z t p))) t

  both_join : T (joins b w) → T (joins a u)
  unfolding joins
  both_join t =
      or_else (same b (word "q") && plain_u w) (same b (word "g") && i_and_another w)
      (λ t. or_l (same a (word "q") && plain_u u) _ (and_i (same a (word "q")) (plain_u u) (same_as (word "q") tt (search and_l)) (u_agrees h (search and_r))))
      (λ t. or_r (same a (word "q") && plain_u u) _ (and_i (same a (word "g")) (i_and_another u) (same_as (word "g") tt (search and_l)) (subst T (i_agrees h) (search and_r)))) t

  -- where the initial is one of the tables
  neither_joins : joins b w ≡ false → T (one_of b initials) → joins a u ≡ false
  unfolding joins
  neither_joins e k = go (onset g k) k e
    where
      not_q : (p x y : Bool) → (T p → T false) → (p && x) ≡ (p && y)
      not_q true x y f = absurd (f tt)
      not_q false x y f = refl

      go : {a b : Letters} → Onset a b → T (one_of b initials) → joins b w ≡ false → joins a u ≡ false
      go (same_onset {a = c}) k e = ap₂ (λ (p q : Bool). p || (same c (word "g") && q)) (not_q (same c (word "q")) (plain_u u) (plain_u w) (no_q c k)) (sym (i_agrees h)) ∙ e
      go (d_for_đ c) k e = refl

joins_agree : {u w : Letters} → Agrees u w → T (one_of (initial w) initials) → joins (before u) (run u) ≡ joins (before w) (run w)
unfolding initial
joins_agree {u} {w} g k = go (joins (before w) (run w)) refl k
  where
    go : (c : Bool) → joins (before w) (run w) ≡ c → T (one_of (initial_of c (before w) (run w)) initials) → joins (before u) (run u) ≡ c
    go true e k = is_true (joins (before u) (run u)) (both_join (front_agrees false g) (front_agrees true (past_agrees false g)) (subst T (sym e) tt))
    go false e k = neither_joins (front_agrees false g) (front_agrees true (past_agrees false g)) e k

append_agrees : {a b u w : Letters} → Agrees a b → Agrees u w → Agrees (a ++ u) (b ++ w)
append_agrees end h = h
append_agrees (kept g) h = kept (append_agrees g h)
append_agrees (bared g) h = bared (append_agrees g h)

initial_of_law : (c : Bool) {a b u w : Letters} → Agrees a b → Agrees u w → Agrees (initial_of c a u) (initial_of c b w)
initial_of_law true g end = g
initial_of_law true g (kept h) = append_agrees g (kept end)
initial_of_law true g (bared h) = append_agrees g (bared end)
initial_of_law false g h = g

nucleus_of_law : (c : Bool) {u w : Letters} → Agrees u w → Agrees (nucleus_of c u) (nucleus_of c w)
nucleus_of_law true end = end
nucleus_of_law true (kept h) = h
nucleus_of_law true (bared h) = h
nucleus_of_law false h = h

-- what agrees with a listed nucleus, and so some does
nucleus_agrees : {u w : Letters} (z : Letters) → Agrees u w → T (same w z) → T (agrees u z)
nucleus_agrees [] end t = t
nucleus_agrees (z ∷ zs) (kept {x = x} {u = u} {w = w} a) t =
    let (h, k) = and_if (is x z) (same w zs) t in
    and_so (agrees_at x z) (agrees u zs) (and_i (eqb x.base z.base) (eqb x.shape plain || eqb x.shape z.shape) (search and_l) (or_r (eqb x.shape plain) (eqb x.shape z.shape) (search and_r)))
    (nucleus_agrees zs a k)
nucleus_agrees (z ∷ zs) (bared {x = x} {u = u} {w = w} a) t =
    let (h, k) = and_if (is x z) (same w zs) t in
    and_so (agrees_at (shaped plain x) z) (agrees u zs) (and_i (eqb x.base z.base) true (search and_l) tt) (nucleus_agrees zs a k)
nucleus_agrees [] (kept {x = x} {u = u} {w = w} a) t = elim t [ ]
nucleus_agrees [] (bared {x = x} {u = u} {w = w} a) t = elim t [ ]
nucleus_agrees (z ∷ zs) end t = elim t [ ]

plain_finals : (f : Letters) → T (one_of f finals) → T (all_plain f)
plain_finals f k = let m = meet (same f) all_plain finals k tt in same_plain f m.here m.one m.other

module _ {u w : Letters} (g : Agrees u w) (t : ℕ) (s : Passed w t) where
  initials_agree : Agrees (initial u) (initial w)
  unfolding initial
  initials_agree =
      subst (λ (c : Bool). Agrees (initial_of c (before u) (run u)) (initial w)) (sym (joins_agree g s.known))
      (initial_of_law (joins (before w) (run w)) (front_agrees false g) (front_agrees true (past_agrees false g)))

  nuclei_agree : Agrees (nucleus u) (nucleus w)
  unfolding nucleus
  nuclei_agree =
      subst (λ (c : Bool). Agrees (nucleus_of c (run u)) (nucleus w)) (sym (joins_agree g s.known))
      (nucleus_of_law (joins (before w) (run w)) (front_agrees true (past_agrees false g)))

  same_final : final u ≡ final w
  unfolding final
  same_final = plain_equal (front_agrees false (past_agrees true (past_agrees false g))) (plain_finals (final w) s.ends)

  same_leftovers : is_nil (leftovers u) ≡ is_nil (leftovers w)
  unfolding leftovers
  same_leftovers = nil_agrees (past_agrees false (past_agrees true (past_agrees false g)))

  on : Onset (initial u) (initial w)
  on = onset initials_agree s.known

  could_be_law : (r : Row) (z : Letters) → T (is_this (initial w) (nucleus w) (final w) r z) → T (could_be (initial u) (nucleus u) (final u) r z)
  could_be_law r z h =
      let (k, ok) = and_if (same (nucleus w) z) (stands (initial w) z && takes (initial w) r z (final w)) h in
      and_so (agrees (nucleus u) z) (stands (initial u) z && (is_nil (final u) || takes (initial u) r z (final u))) (nucleus_agrees z nuclei_agree k)
      (and_i (stands (initial u) z) (is_nil (final u) || takes (initial u) r z (final u)) (subst T (onset_stands z on) (and_l (stands (initial w) z) (takes (initial w) r z (final w)) ok))
      (or_r (is_nil (final u)) (takes (initial u) r z (final u))
      (subst (λ (f : Letters). T (takes (initial u) r z f)) (sym same_final) (subst T (onset_takes r z (final w) on) (and_r (stands (initial w) z) (takes (initial w) r z (final w)) ok)))))

  pub agreeing_admitted : T (admitted u)
  unfolding admitted some_agrees listed
  agreeing_admitted =
      go (is_nil (nucleus u)) (one_of (initial u) initials) (is_nil (leftovers u)) (fit (initial u) (first_base (nucleus u))) (one_of (final u) finals) (some_row (could_be (initial u) (nucleus u) (final u)) rows)
      (subst (λ (b : Bool). T (not b)) (sym (nil_agrees nuclei_agree)) s.vowels) (onset_known on s.known) (subst T (sym same_leftovers) s.whole)
      (subst (λ (v : ℕ). T (fit (initial u) v)) (sym (first_agrees nuclei_agree)) (subst T (onset_fit (first_base (nucleus w)) on) s.suits))
      (subst (λ (f : Letters). T (one_of f finals)) (sym same_final) s.ends) (some_row_so (is_this (initial w) (nucleus w) (final w)) (could_be (initial u) (nucleus u) (final u)) could_be_law rows s.list)
    where
      go : (e i n f g l : Bool) → T (not e) → T i → T n → T f → T g → T l →
          T (elim (eqb (first_that_holds (check 1 e ∷ check 2 (not i) ∷ check 3 (not n) ∷ check 4 (not f) ∷ check 5 (not g) ∷ [])) 0) [ true ↦ l | false ↦ false ])
      go false true true true true true a b c d e f = tt
      go false false n _ _ l a b c d e f = elim b [ ]
      go false true false _ _ l a b c d e f = elim c [ ]
      go false true true false _ l a b c d e f = elim d [ ]
      go false true true true false l a b c d e f = elim e [ ]
      go false true true true true false a b c d e f = elim f [ ]
      go true i n _ _ l a b c d e f = elim a [ ]

pub valid_admitted : (w : Letters) (t : ℕ) → verdict w t ≡ 0 → T (admitted w)
valid_admitted w t v = agreeing_admitted (self_agrees w) t (passed w t v)

pub bare_admitted : (w : Letters) (t : ℕ) → verdict w t ≡ 0 → T (admitted (bare w))
bare_admitted w t v = agreeing_admitted (bare_agrees w) t (passed w t v)
