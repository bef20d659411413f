-- When a key acts; and two keys of different families that would each act give the same letters, tone and mark in either order, and touch letters that lie apart.
use mathlib.Core.Path.{◌≡◌, refl, sym, ap, subst, ◌∙◌}
use mathlib.Core.Bool.{Bool, true, false, not, ◌&&◌, ◌||◌}
use mathlib.Core.List.{List, [], ◌∷◌}
use Prim.Native.Nat.{ℕ}
use Prim.Native.Char.{code}
use lib.Dec.{eqb, T}
use lib.ListN.{length}
use lib.Ieee.Fits.{and_i, and_l, and_r}
use Rattle.rules.specs.Letters.{Letter, Letters, plain, circumflex, breve, horn, stroke, no_tone, named, is, is_nil}
use Rattle.rules.specs.TakingApart.{admitted, final, fits}
use Rattle.rules.specs.TheWord.{State, Done, acted, undone, appended, shaped_on, toned_by_act}
use Rattle.rules.specs.KeyRoles.{with_letters, with_tone, undo_if, act_if, tone_goes, shaped, Found, nowhere, already, fresh, one_further, behind, or_else, pair_here, pair, single, horned, breved, circumflexed, circumflex_on, Edit, nothing, off, change, only_if, asked, first, shape_edit, stroke_edit, edit_does, role_does}
use Rattle.rules.specs.declared.Role.{Role}
use Rattle.rules.specs.declared.Role.TheVariants.{ToneRole, ShapeRole, StrokeRole, NoRole}
use Rattle.rules.specs.declared.ToneKey.{ToneKey}
use Rattle.rules.specs.declared.ToneKey.TheVariants.{SetTone, ClearTone}
use Rattle.rules.specs.declared.ShapeKey.{ShapeKey}
use Rattle.rules.specs.declared.ShapeKey.TheVariants.{CircumflexOn, Circumflex, Breve, Horn, HornBreve}
use Rattle.rules.specs.declared.Touched.{Touched}
use Rattle.rules.specs.declared.Touched.TheVariants.{NoLetter, OneLetter, TwoLetters}
use Rattle.rules.specs.declared.Act.{Act}
use Rattle.rules.specs.declared.Act.TheVariants.{Tone, Shape, Stroke, Clear}
use Rattle.rules.proofs.Edits.{length_alike, puts_shape, puts_stroke, Good, good, good_shape, good_stroke, dee, is_d, d_admitted}

-- when a key acts, as what, on which letters, and what the word is then
pub data Acts : Role → State → Act → Touched → State → Type 0 where
  by_tone : {s : State} (t : ℕ) → T (not (eqb s.tone t)) → T (tone_goes t s.letters) → Acts (ToneRole (SetTone t)) s (Tone t) NoLetter (with_tone s t)
  by_clear : {s : State} → T (not (eqb s.tone no_tone)) → Acts (ToneRole ClearTone) s Clear NoLetter (with_tone s no_tone)
  by_shape : {s : State} {h : ShapeKey} {a : Act} {g : Touched} {w : Letters} → shape_edit h s.letters ≡ change a g w → Acts (ShapeRole h) s a g (with_letters s w)
  by_stroke : {s : State} {a : Act} {g : Touched} {w : Letters} → stroke_edit s.letters ≡ change a g w → Acts StrokeRole s a g (with_letters s w)

-- Acts says when the rule's answer is acted: one way
data View (r : Role) (s : State) : Done → Type 0 where
  it_acted : {a : Act} {g : Touched} {t : State} → Acts r s a g t → View r s (acted a g t)
  it_undid : {g : Touched} {t : State} → View r s (undone g t)
  it_appended : {g : Touched} {t : State} → View r s (appended g t)

view_undo_if : {r : Role} {s : State} (c : Bool) (u : State) {d : Done} → (T (not c) → View r s d) → View r s (undo_if c u d)
view_undo_if true u h = it_undid
view_undo_if false u h = h tt

view_act_if : {r : Role} {s t : State} {a : Act} (c : Bool) {d : Done} → View r s d → (T c → Acts r s a NoLetter t) → View r s (act_if c a t d)
view_act_if true v h = it_acted (h tt)
view_act_if false v h = v

view_edit : {r : Role} (s : State) (k : Letter) (e : Edit) → ((a : Act) (g : Touched) (w : Letters) → e ≡ change a g w → Acts r s a g (with_letters s w)) → View r s (edit_does e s k)
view_edit s k nothing h = it_appended
view_edit s k (off g w) h = it_undid
view_edit s k (change a g w) h = it_acted (h a g w refl)

view : (r : Role) (s : State) (k : Letter) → View r s (role_does r s k)
view (ToneRole (SetTone t)) s k = view_undo_if (eqb s.tone t) _ (λ c. view_act_if (tone_goes t s.letters) it_appended (λ f. by_tone t c f))
view (ToneRole ClearTone) s k = view_act_if (not (eqb s.tone no_tone)) it_appended (λ c. by_clear c)
view (ShapeRole h) s k = view_edit s k (shape_edit h s.letters) (λ a g w e. by_shape e)
view StrokeRole s k = view_edit s k (stroke_edit s.letters) (λ a g w e. by_stroke e)
view NoRole s k = it_appended

of_view : {r : Role} {s t : State} {a : Act} {g : Touched} → View r s (acted a g t) → Acts r s a g t
of_view (it_acted h) = h

pub acts : (r : Role) (s : State) (k : Letter) {a : Act} {g : Touched} {t : State} → role_does r s k ≡ acted a g t → Acts r s a g t
acts r s k h = of_view (subst (View r s) h (view r s k))

-- and the other
act_if_true : (p : Bool) (a : Act) (s : State) (d : Done) → T p → act_if p a s d ≡ acted a NoLetter s
act_if_true true a s d t = refl
act_if_true false a s d t = absurd t

undo_if_false : (c : Bool) (u : State) (d : Done) → T (not c) → undo_if c u d ≡ d
undo_if_false true u d t = absurd t
undo_if_false false u d t = refl

pub acted_if : {r : Role} {s t : State} {a : Act} {g : Touched} (k : Letter) → Acts r s a g t → role_does r s k ≡ acted a g t
acted_if k (by_tone {s = s} t c f) = undo_if_false (eqb s.tone t) _ _ c ∙ act_if_true (tone_goes t s.letters) _ _ _ f
acted_if k (by_clear {s = s} c) = act_if_true (not (eqb s.tone no_tone)) _ _ _ c
acted_if k (by_shape {s = s} h) = ap (λ (e : Edit). edit_does e s k) h
acted_if k (by_stroke {s = s} h) = ap (λ (e : Edit). edit_does e s k) h

-- a key that acts leaves the mark as it was
pub stays_open : {r : Role} {s t : State} {a : Act} {g : Touched} → Acts r s a g t → t.closed ≡ s.closed
stays_open (by_tone t c f) = refl
stays_open (by_clear c) = refl
stays_open (by_shape h) = refl
stays_open (by_stroke h) = refl

-- and the number of letters
good_length : {v w : Letters} {a : Act} {g : Touched} → Good v (change a g w) → length v ≡ length w
good_length (good c r y p h) = length_alike r

shape_good : (h : ShapeKey) {v w : Letters} {a : Act} {g : Touched} → shape_edit h v ≡ change a g w → Good v (change a g w)
shape_good h {v} e = subst (Good v) e (good_shape h v)

stroke_good : {v w : Letters} {a : Act} {g : Touched} → stroke_edit v ≡ change a g w → Good v (change a g w)
stroke_good {v} e = subst (Good v) e (good_stroke v)

pub keeps_length : {r : Role} {s t : State} {a : Act} {g : Touched} → Acts r s a g t → length s.letters ≡ length t.letters
keeps_length (by_tone t c f) = refl
keeps_length (by_clear c) = refl
keeps_length (by_shape {s = s} {h = h} e) = good_length (shape_good h {v = s.letters} e)
keeps_length (by_stroke {s = s} e) = good_length (stroke_good {v = s.letters} e)

-- a tone goes on after an edit as before it
good_tone : {v w : Letters} {a : Act} {g : Touched} (t : ℕ) → Good v (change a g w) → T (tone_goes t v) → T (tone_goes t w)
good_tone {v} {w} t (good c r y p h) x = and_i (admitted w) (fits (final w) t) (h (search and_l)) (subst (λ (f : Letters). T (fits f t)) p (search and_r))

-- and an edit leaves the place of the tone's key as it is
good_leaves : {v w : Letters} {a : Act} {g : Touched} → Good v (change a g w) → (here p : ℕ) → toned_by_act here p a ≡ p
good_leaves (good c r (puts_shape n y) p h) here q = refl
good_leaves (good c r (puts_stroke y) p h) here q = refl

-- a word that starts with d, and the same with đ: each search finds the same
data Same (c : Bool) : Found → Found → Type 0 where
  same_none : Same c nowhere nowhere
  same_was : (g : Touched) {v w : Letters} → Same c (already (one_further g) v) (already (one_further g) w)
  same_fresh : (g : Touched) {w : Letters} → Same c (fresh (one_further g) (dee plain c ∷ w)) (fresh (one_further g) (dee stroke c ∷ w))

same_behind : (c : Bool) (f : Found) → Same c (behind (dee plain c) f) (behind (dee stroke c) f)
same_behind c nowhere = same_none
same_behind c (already g w) = same_was g
same_behind c (fresh g w) = same_fresh g

same_or : {c : Bool} {f f' g g' : Found} → Same c f f' → Same c g g' → Same c (or_else f g) (or_else f' g')
same_or same_none q = q
same_or (same_was g) q = same_was g
same_or (same_fresh g) q = same_fresh g

same_pair_here : (c : Bool) (xs : Letters) → Same c (pair_here false (dee plain c) xs) (pair_here false (dee stroke c) xs)
same_pair_here c [] = same_none
same_pair_here c (z ∷ zs) = same_none

same_horned : (c : Bool) (xs : Letters) → Same c (horned (dee plain c ∷ xs)) (horned (dee stroke c ∷ xs))
same_horned c xs = same_or same_none (same_or (same_or (same_pair_here c xs) (same_behind c (pair false xs))) (same_or same_none (same_behind c (single false xs))))

same_breved : (c : Bool) (xs : Letters) → Same c (breved (dee plain c ∷ xs)) (breved (dee stroke c ∷ xs))
same_breved c xs = same_or (same_behind c (breved xs)) same_none

same_circumflexed : (c : Bool) (xs : Letters) → Same c (circumflexed (dee plain c ∷ xs)) (circumflexed (dee stroke c ∷ xs))
same_circumflexed c xs = same_or (same_behind c (circumflexed xs)) same_none

same_circumflex_on : (c : Bool) (b : ℕ) (xs : Letters) → Same c (circumflex_on b (dee plain c ∷ xs)) (circumflex_on b (dee stroke c ∷ xs))
same_circumflex_on c b xs = same_or (same_behind c (circumflex_on b xs)) same_none

-- and each shape key does the same
data Twin (c : Bool) : Edit → Edit → Type 0 where
  twin_none : Twin c nothing nothing
  twin_off : {g : Touched} {v w : Letters} → Twin c (off g v) (off g w)
  twin : {a : Act} (g : Touched) {w : Letters} → T (admitted (dee plain c ∷ w)) → Twin c (change a (one_further g) (dee plain c ∷ w)) (change a (one_further g) (dee stroke c ∷ w))

twin_if : {c : Bool} (b : Bool) {e f : Edit} → (T b → Twin c e f) → Twin c (only_if b e) (only_if b f)
twin_if true h = h tt
twin_if false h = twin_none

twin_first : {c : Bool} {e f e' f' : Edit} → Twin c e f → Twin c e' f' → Twin c (first e e') (first f f')
twin_first twin_none q = q
twin_first twin_off q = twin_off
twin_first (twin g t) q = twin g t

twin_asked : {c : Bool} {f g : Found} (sh : ℕ) → Same c f g → Twin c (asked sh f) (asked sh g)
twin_asked sh same_none = twin_none
twin_asked sh (same_was g) = twin_off
twin_asked {c} sh (same_fresh g {w = w}) =
    subst (λ (b : Bool). Twin c (asked sh (fresh (one_further g) (dee plain c ∷ w))) (only_if b (change (Shape sh) (one_further g) (dee stroke c ∷ w)))) (d_admitted c w) (twin_if (admitted (dee plain c ∷ w)) (λ t. twin g t))

twin_shape : (h : ShapeKey) (c : Bool) (xs : Letters) → Twin c (shape_edit h (dee plain c ∷ xs)) (shape_edit h (dee stroke c ∷ xs))
twin_shape (CircumflexOn b) c xs = twin_asked circumflex (same_circumflex_on c b xs)
twin_shape Circumflex c xs = twin_asked circumflex (same_circumflexed c xs)
twin_shape Breve c xs = twin_asked breve (same_breved c xs)
twin_shape Horn c xs = twin_asked horn (same_horned c xs)
twin_shape HornBreve c xs = search (twin_first, twin_asked, same_horned, same_breved)

-- when the stroke changes letters: a first letter d becomes đ
data Struck : Letters → Edit → Type 0 where
  struck_none : {w : Letters} → Struck w nothing
  struck_off : {g : Touched} {v w : Letters} → Struck v (off g w)
  struck_d : (c : Bool) {w : Letters} → Struck (dee plain c ∷ w) (change Stroke (OneLetter 0) (dee stroke c ∷ w))

view_struck : (w : Letters) → Struck w (stroke_edit w)
view_struck [] = struck_none
view_struck (x ∷ xs) = go (is x (named (code "đ"))) (is x (named (code "d"))) (is_nil xs || admitted (x ∷ xs)) (is_d x)
  where
    go : (p q r : Bool) → (T q → x ≡ dee plain x.capital) → Struck (x ∷ xs) (first (only_if p (off (OneLetter 0) (shaped plain x ∷ xs))) (only_if (q && r) (change Stroke (OneLetter 0) (shaped stroke x ∷ xs))))
    go true q r h = struck_off
    go false true true h = rw (h tt) (struck_d x.capital)
    go false true false h = struck_none
    go false false r h = struck_none

only_if_or : (p q : Bool) (e : Edit) → T q → only_if (p || q) e ≡ e
only_if_or true q e t = refl
only_if_or false true e t = refl
only_if_or false false e t = absurd t

-- what a shape key and the stroke touch lies apart: places are put on both in either order
unfoldable pub Apart : Touched → Touched → Type 0
Apart g h = (p q : ℕ) (ps : List ℕ) → shaped_on p g (shaped_on q h ps) ≡ shaped_on q h (shaped_on p g ps)

apart_first : (g : Touched) → Apart (one_further g) (OneLetter 0)
unfolding Apart
apart_first NoLetter p q ps = refl
apart_first (OneLetter i) p q [] = refl
apart_first (OneLetter i) p q (x ∷ ps) = refl
apart_first (TwoLetters i) p q [] = refl
apart_first (TwoLetters i) p q (x ∷ ps) = refl

record Met (h : ShapeKey) (a : Act) (g : Touched) (v w : Letters) : Type 0 where
  to : Letters
  struck : stroke_edit v ≡ change Stroke (OneLetter 0) to
  shaped_too : shape_edit h w ≡ change a g to
  apart : Apart g (OneLetter 0)

meet_twin : {c : Bool} (h : ShapeKey) {a : Act} {g : Touched} {v : Letters} (w : Letters) → Twin c (change a g v) (shape_edit h w) → Met h a g v w
meet_twin {c} h w = go (shape_edit h w) refl
  where
    go : {a : Act} {g : Touched} {v : Letters} (e : Edit) → shape_edit h w ≡ e → Twin c (change a g v) e → Met h a g v w
    go e p (twin g {w = ys} t) = record { to = dee stroke c ∷ ys; struck = only_if_or (is_nil ys) (admitted (dee plain c ∷ ys)) _ t; shaped_too = p; apart = apart_first g }

meet : (h : ShapeKey) {a b : Act} {g i : Touched} {u v w : Letters} → shape_edit h u ≡ change a g v → Struck u (change b i w) → (b ≡ Stroke) × (i ≡ OneLetter 0) × Met h a g v w
meet h e (struck_d c {w = w}) = (refl, refl, meet_twin h (dee stroke c ∷ w) (subst (λ (d : Edit). Twin c d (shape_edit h (dee stroke c ∷ w))) e (twin_shape h c w)))

-- two roles of different families of the three: tone with clear, vowel shape, stroke
pub data Differ : Role → Role → Type 0 where
  tone_shape : {t : ToneKey} {h : ShapeKey} → Differ (ToneRole t) (ShapeRole h)
  tone_stroke : {t : ToneKey} → Differ (ToneRole t) StrokeRole
  shape_stroke : {h : ShapeKey} → Differ (ShapeRole h) StrokeRole
  swapped : {r q : Role} → Differ r q → Differ q r

-- of two acts, one leaves the place of the tone's key as it is
pub data OneLeaves (a b : Act) : Type 0 where
  first_leaves : ((here p : ℕ) → toned_by_act here p a ≡ p) → OneLeaves a b
  second_leaves : ((here p : ℕ) → toned_by_act here p b ≡ p) → OneLeaves a b

leaves_swap : {a b : Act} → OneLeaves a b → OneLeaves b a
leaves_swap (first_leaves f) = second_leaves f
leaves_swap (second_leaves f) = first_leaves f

-- each acts after the other as it acts alone, and touches the same letters; the two orders meet; and what the two touch lies apart
pub record Commutes (r q : Role) (a b : Act) (g h : Touched) (t u : State) : Type 0 where
  pub last : State
  pub second : Acts q t b h last
  pub first : Acts r u a g last
  pub apart : Apart g h
  pub leaves : OneLeaves a b

apart_none : (h : Touched) → Apart NoLetter h
unfolding Apart
apart_none h p q ps = refl

apart_swap : (g h : Touched) → Apart g h → Apart h g
unfolding Apart
apart_swap g h f p q ps = sym (f q p ps)

-- a tone key with an edit
tone_edit : {k : ToneKey} {q : Role} {s t : State} {a b : Act} {g h : Touched} {w : Letters} → Acts (ToneRole k) s a g t → Good s.letters (change b h w) →
    ((y : State) → y.letters ≡ s.letters → Acts q y b h (with_letters y w)) → Commutes (ToneRole k) q a b g h t (with_letters s w)
tone_edit {h = h} {w = w} (by_tone {s = s} t c f) e act =
    record { last = with_letters (with_tone s t) w; second = act _ refl; first = by_tone t c (good_tone t e f); apart = apart_none h; leaves = second_leaves (good_leaves e) }
tone_edit {h = h} {w = w} (by_clear {s = s} c) e act =
    record { last = with_letters (with_tone s no_tone) w; second = act _ refl; first = by_clear c; apart = apart_none h; leaves = second_leaves (good_leaves e) }

pub commute : {r q : Role} {s t u : State} {a b : Act} {g h : Touched} → Differ r q → Acts r s a g t → Acts q s b h u → Commutes r q a b g h t u
commute tone_shape k (by_shape {s = s} {h = h} e) = tone_edit k (shape_good h {v = s.letters} e) (λ y p. by_shape (ap (shape_edit h) p ∙ e))
commute tone_stroke k (by_stroke {s = s} e) = tone_edit k (stroke_good {v = s.letters} e) (λ y p. by_stroke (ap stroke_edit p ∙ e))
commute shape_stroke (by_shape {s = s} {h = h} {g = g} e) (by_stroke e') =
    let (p, q, m) = meet h e (subst (Struck s.letters) e' (view_struck s.letters)) in
    record {
      last = with_letters s m.to;
      second = by_stroke (m.struck ∙ (λ j. change (sym p j) (sym q j) m.to));
      first = by_shape m.shaped_too;
      apart = subst (Apart g) (sym q) m.apart;
      leaves = first_leaves (good_leaves (shape_good h {v = s.letters} e));
    }
commute {g = x} {h = y} (swapped p) g h = let m = commute p h g in record { last = m.last; second = m.first; first = m.second; apart = apart_swap y x m.apart; leaves = leaves_swap m.leaves }
