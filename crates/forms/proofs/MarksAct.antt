-- What the tests of a syllable's stroke, shape and tone keys say: they act, alone and one after the other, and are of different families.
use mathlib.Core.Path.{◌≡◌, refl, sym, ap, subst, ◌∙◌}
use mathlib.Core.Bool.{Bool, true, false, not, ◌&&◌}
use mathlib.Core.List.{List, [], ◌∷◌, ◌++◌, map}
use Prim.Native.Nat.{ℕ, zero, suc, ◌≤◌}
use native.Mathlib.Omega.{arith}
use lib.Dec.{T, eqb}
use lib.Ieee.Fits.{and_l, and_r}
use Rattle.rules.specs.Letters.{Letters, circumflex, breve, horn, no_tone, dot, telex, vni, same}
use Rattle.rules.specs.TakingApart.{admitted}
use Rattle.rules.specs.KeyRoles.{role, tone_goes, Found, fresh, already, nowhere, off, circumflex_on, circumflexed, breved, horned, Edit, nothing, change, only_if, asked, first, shape_edit, stroke_edit}
use Rattle.rules.specs.Speller.{tone_keys}
use Rattle.rules.specs.Refusals.{is_mode}
use Rattle.rules.specs.declared.Role.{Role}
use Rattle.rules.specs.declared.Role.TheVariants.{ToneRole, ShapeRole, StrokeRole, NoRole}
use Rattle.rules.specs.declared.ToneKey.{ToneKey}
use Rattle.rules.specs.declared.ToneKey.TheVariants.{SetTone}
use Rattle.rules.specs.declared.ShapeKey.{ShapeKey}
use Rattle.rules.specs.declared.ShapeKey.TheVariants.{CircumflexOn, Circumflex, Breve, Horn, HornBreve}
use Rattle.rules.specs.declared.Touched.{Touched}
use Rattle.rules.specs.declared.Act.{Act}
use Rattle.rules.specs.declared.Act.TheVariants.{Shape}
use Rattle.rules.proofs.Tests.{either as or_else}
use Rattle.rules.proofs.Edits.{Good, good_shape, good_stroke}
use Rattle.rules.proofs.Commute.{by_tone, Differ, tone_shape, tone_stroke, shape_stroke, swapped}
use Rattle.rules.proofs.Typing.{of_modes}
use Rattle.forms.specs.Forms.{capitals}
use Rattle.rules.specs.Syllables.{open_word}
use Rattle.forms.proofs.KeyCourses.{edit_by}
use Rattle.forms.proofs.Tests.{is_change, is_nothing, changes_to, apart, alone, fresh_is, leads, last_step, chain}
use Rattle.forms.proofs.Capitals.{same_capitals, left_good, left}
use Rattle.forms.proofs.CoursesTyped.{acts_edit, changed}
use Rattle.forms.proofs.Runs.{Each, none, also, Apart, no_more, and_from, Can, can, Runs, stop, then}

-- the role of the tone key, if the tone has one
pub data Toned : ℕ → List Role → Type 0 where
  no_tone_law : Toned no_tone []
  a_tone : {t : ℕ} → T (not (eqb no_tone t)) → Toned t (ToneRole (SetTone t) ∷ [])

pub six_tones : (P : ℕ → Type 0) → P 0 → P 1 → P 2 → P 3 → P 4 → P 5 → (t : ℕ) → t ≤ dot → P t
six_tones P a b c d e f zero h = a
six_tones P a b c d e f (suc zero) h = b
six_tones P a b c d e f (suc (suc zero)) h = c
six_tones P a b c d e f (suc (suc (suc zero))) h = d
six_tones P a b c d e f (suc (suc (suc (suc zero)))) h = e
six_tones P a b c d e f (suc (suc (suc (suc (suc zero))))) h = f
six_tones P a b c d e f (suc (suc (suc (suc (suc (suc n)))))) h = absurd (omega arith)

pub toned : (mode t : ℕ) → T (is_mode mode) → t ≤ dot → Toned t (map (role mode) (tone_keys mode t))
toned mode t m h =
    of_modes (λ n. Toned t (map (role n) (tone_keys n t)))
    (six_tones (λ n. Toned n (map (role telex) (tone_keys telex n))) no_tone_law (a_tone tt) (a_tone tt) (a_tone tt) (a_tone tt) (a_tone tt) t h)
    (six_tones (λ n. Toned n (map (role vni) (tone_keys vni n))) no_tone_law (a_tone tt) (a_tone tt) (a_tone tt) (a_tone tt) (a_tone tt) t h) mode m

pub toned_runs : {w : Letters} {t : ℕ} {rs : List Role} → Toned t rs → T (tone_goes t w) → Runs (open_word w no_tone) rs (open_word w t)
toned_runs no_tone_law f = stop
toned_runs (a_tone {t = t} c) f = then (by_tone t c f) stop

-- what the chain of stroke and shape says
differ : (r q : Role) → T (apart r q) → Differ r q
differ (ShapeRole r) StrokeRole t = shape_stroke
differ StrokeRole (ShapeRole q) t = swapped shape_stroke
differ (ToneRole _) q t = elim t [ ]
differ (ShapeRole r) (ToneRole _) t = elim t [ ]
differ (ShapeRole r) (ShapeRole q) t = elim t [ ]
differ (ShapeRole r) NoRole t = elim t [ ]
differ StrokeRole (ToneRole _) t = elim t [ ]
differ StrokeRole StrokeRole t = elim t [ ]
differ StrokeRole NoRole t = elim t [ ]
differ NoRole q t = elim t [ ]

tone_differs : (q : ToneKey) (r : Role) (v : Letters) {b : Act} {g : Touched} {u : Letters} → edit_by r v ≡ change b g u → Differ (ToneRole q) r
tone_differs q (ToneRole r) v e = let z : ◌≡◌ {A = ℕ} 0 1 = cc in absurd (omega arith)
tone_differs q (ShapeRole r) v e = tone_shape
tone_differs q StrokeRole v e = tone_stroke
tone_differs q NoRole v e = let z : ◌≡◌ {A = ℕ} 0 1 = cc in absurd (omega arith)

record Alone (r : Role) (rs : List Role) (v : Letters) : Type 0 where
  differs : Each (Differ r) rs
  each : Each (Can (open_word v no_tone)) rs

alone_so : (r : Role) (rs : List Role) (v : Letters) → T (alone r rs v) → Alone r rs v
alone_so r [] v t = record { differs = none; each = none }
alone_so r (q ∷ qs) v t =
    let h = and_r (apart r q) (is_change (edit_by q v) && alone r qs v) t in
    let c = changed (edit_by q v) (λ u. true) (and_l (is_change (edit_by q v)) (alone r qs v) h) in
    let more = alone_so r qs v (and_r (is_change (edit_by q v)) (alone r qs v) h) in
    record { differs = also (differ r q (and_l (apart r q) (is_change (edit_by q v) && alone r qs v) t)) more.differs; each = also (can (acts_edit q (open_word v no_tone) c.is_so)) more.each }

-- what the last step says: the key changes the letters to w
only_if_so : (b : Bool) (e : Edit) → T b → only_if b e ≡ e
only_if_so true e t = refl
only_if_so false e t = elim t [ ]

first_so : (e f : Edit) {d : Edit} → T (is_nothing e) → f ≡ d → first e f ≡ d
first_so nothing f t p = p
first_so (off _ _) f {d = d} t p = elim t [ ]
first_so (change _ _ _) f {d = d} t p = elim t [ ]

module _ (v w : Letters) (c : capitals v ≡ capitals w) (k : (x : Letters) → T (same x w) → T (admitted x)) where
  to_w : (x : Letters) {a : Act} {g : Touched} → T (same x w) → Good v (change a g x) → x ≡ w
  to_w x t q = same_capitals x w t (sym (left_good q).caps ∙ c)

  asked_so : (sh : ℕ) (f : Found) → Good v (asked sh f) → T (fresh_is w f) → (a : Act) × (g : Touched) × (asked sh f ≡ change a g w)
  asked_so sh (fresh g x) q t =
      let e = only_if_so (admitted x) (change (Shape sh) g x) (k x t) in
      (Shape sh, g, e ∙ ap (change (Shape sh) g) (to_w x t (subst (Good v) e q)))
  asked_so sh nowhere q t = elim t [ ]
  asked_so sh (already _ _) q t = elim t [ ]

  led : (h : ShapeKey) → T (leads h v w) → (a : Act) × (g : Touched) × (shape_edit h v ≡ change a g w)
  led (CircumflexOn b) t = asked_so circumflex (circumflex_on b v) (good_shape (CircumflexOn b) v) t
  led Circumflex t = asked_so circumflex (circumflexed v) (good_shape Circumflex v) t
  led Breve t = asked_so breve (breved v) (good_shape Breve v) t
  led Horn t = asked_so horn (horned v) (good_shape Horn v) t
  led HornBreve t =
      let breves = asked_so breve (breved v) (good_shape Breve v) in
      or_else (fresh_is w (horned v)) (is_nothing (asked horn (horned v)) && fresh_is w (breved v))
      (λ t. let (a, g, e) = asked_so horn (horned v) (good_shape Horn v) t in (a, g, ap (λ (e : Edit). first e (asked breve (breved v))) e))
      (λ t. let (a, g, e) = breves (search and_r) in (a, g, first_so (asked horn (horned v)) (asked breve (breved v)) (search and_l) e)) t

  changed_to : (e : Edit) → Good v e → T (changes_to w e) → (a : Act) × (g : Touched) × (e ≡ change a g w)
  changed_to (change a g x) q t = (a, g, ap (change a g) (to_w x t q))
  changed_to nothing q t = elim t [ ]
  changed_to (off _ _) q t = elim t [ ]

  last_step_law : (r : Role) → T (last_step w r v) → (a : Act) × (g : Touched) × (edit_by r v ≡ change a g w)
  last_step_law (ShapeRole s) h = led s h
  last_step_law StrokeRole h = changed_to (stroke_edit v) (good_stroke v) h
  last_step_law (ToneRole _) h = elim h [ ]
  last_step_law NoRole h = elim h [ ]

-- from letters v, in a word with the tone t or with none
pub record Chained (w v : Letters) (rs : List Role) (t : ℕ) : Type 0 where
  pub run : Runs (open_word v t) rs (open_word w t)
  pub apart : Apart rs
  pub each : Each (Can (open_word v no_tone)) rs
  pub not_tones : Each (Differ (ToneRole (SetTone t))) rs

pub chained : (w : Letters) (rs : List Role) (v : Letters) (t : ℕ) → ((x : Letters) → T (same x w) → T (admitted x)) → capitals v ≡ capitals w → T (chain w rs v) → Chained w v rs t
chained w [] v t k c h = record { run = subst (λ (u : Letters). Runs (open_word v t) [] (open_word u t)) (same_capitals v w h c) stop; apart = no_more; each = none; not_tones = none }
chained w (r ∷ []) v t k c h =
    let (a, g, e) = last_step_law v w c k r h in
    record { run = then (acts_edit r (open_word v t) e) stop; apart = and_from none no_more; each = also (can (acts_edit r (open_word v no_tone) e)) none; not_tones = also (tone_differs (SetTone t) r v e) none }
chained w (r ∷ q ∷ qs) v t k c h =
    let d = changed (edit_by r v) (λ u. chain w (q ∷ qs) u && alone r (q ∷ qs) v) h in
    let act = acts_edit r (open_word v t) d.is_so in
    let more = chained w (q ∷ qs) d.to t k (sym (left act).caps ∙ c) (and_l (chain w (q ∷ qs) d.to) (alone r (q ∷ qs) v) d.passes) in
    let others = alone_so r (q ∷ qs) v (and_r (chain w (q ∷ qs) d.to) (alone r (q ∷ qs) v) d.passes) in
    record {
      run = then act more.run;
      apart = and_from others.differs more.apart;
      each = also (can (acts_edit r (open_word v no_tone) d.is_so)) others.each;
      not_tones = also (tone_differs (SetTone t) r v d.is_so) more.not_tones;
    }

-- the tone key in front
pub record WithTone (v u : Letters) (t : ℕ) (rs : List Role) : Type 0 where
  pub run : Runs (open_word v no_tone) rs (open_word u t)
  pub apart : Apart rs
  pub each : Each (Can (open_word v no_tone)) rs

pub with_tone : {v w : Letters} {t : ℕ} {ts rs : List Role} → Toned t ts → T (tone_goes t v) → Chained w v rs t → WithTone v w t (ts ++ rs)
with_tone no_tone_law f c = record { run = c.run; apart = c.apart; each = c.each }
with_tone (a_tone {t = t} d) f c = record { run = then (by_tone t d f) c.run; apart = and_from c.not_tones c.apart; each = also (can (by_tone t d f)) c.each }
