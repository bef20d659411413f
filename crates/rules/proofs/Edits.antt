-- A shape or stroke key changes the shapes of the letters that it touches and no more, and to shapes that their letters can carry; where it acts it keeps the number of letters, the final, and a word admitted.
use mathlib.Core.Path.{◌≡◌, refl, sym, ap, subst}
use mathlib.Core.Bool.{Bool, true, false, not, ◌&&◌, ◌||◌}
use mathlib.Core.List.{[], ◌∷◌}
use Prim.Native.Nat.{ℕ, suc}
use Prim.Native.Char.{code}
use lib.Dec.{eqb, T}
use lib.ListN.{length}
use lib.Ieee.Fits.{and_l, and_r}
use Rattle.rules.specs.Letters.{Letter, Letters, plain, circumflex, breve, horn, stroke, characters, among, named, is, is_nil, carries}
use Rattle.rules.specs.TakingApart.{vowel, is_kind, front_if, front, past_if, past, final, initial, nucleus, leftovers, joins, fit, some_agrees, admitted}
use Rattle.rules.specs.KeyRoles.{shaped, Found, nowhere, already, fresh, one_further, behind, or_else, if_so, target, here, last, own, circumflex_on, is_aeo, circumflexed, is_a, breved, is_q, pair_here, pair, single, is_o, horns_o_alone, o_alone, horned, horn_on_u, horn_on_u_if, Edit, nothing, off, change, only_if, asked, first, shape_edit, stroke_edit}
use Rattle.rules.specs.declared.ShapeKey.{ShapeKey}
use Rattle.rules.specs.declared.ShapeKey.TheVariants.{CircumflexOn, Circumflex, Breve, Horn, HornBreve}
use Rattle.rules.specs.declared.Touched.{Touched}
use Rattle.rules.specs.declared.Touched.TheVariants.{OneLetter, TwoLetters}
use Rattle.rules.specs.declared.Act.{Act}
use Rattle.rules.specs.declared.Act.TheVariants.{Shape, Stroke}
use Rattle.rules.proofs.Tests.{of_elem, is_letter}

-- the same letters, but for the shape of some whose base passes a test
pub data Alike (changed : ℕ → Bool) : Letters → Letters → Type 0 where
  end : Alike changed [] []
  kept : {x : Letter} {v w : Letters} → Alike changed v w → Alike changed (x ∷ v) (x ∷ w)
  moved : {x : Letter} {v w : Letters} (sh : ℕ) → T (changed x.base) → T (carries sh x.base) → Alike changed v w → Alike changed (x ∷ v) (shaped sh x ∷ w)

pub alike : (changed : ℕ → Bool) (w : Letters) → Alike changed w w
alike changed [] = end
alike changed (x ∷ w) = kept (alike changed w)

pub length_alike : {changed : ℕ → Bool} {v w : Letters} → Alike changed v w → length v ≡ length w
length_alike end = refl
length_alike (kept r) = ap suc (length_alike r)
length_alike (moved sh t c r) = ap suc (length_alike r)

-- the same letters, with a shape on those that are touched
pub data Reshaped (sh : ℕ) : Touched → Letters → Letters → Type 0 where
  one : {x : Letter} {w : Letters} → Reshaped sh (OneLetter 0) (x ∷ w) (shaped sh x ∷ w)
  two : {x z : Letter} {w : Letters} → Reshaped sh (TwoLetters 0) (x ∷ z ∷ w) (shaped sh x ∷ shaped sh z ∷ w)
  later : {g : Touched} {x : Letter} {v w : Letters} → Reshaped sh g v w → Reshaped sh (one_further g) (x ∷ v) (x ∷ w)

-- where only vowel letters change, the final is the same
past_if_alike : (c : Bool) {x z : Letter} {v w v' w' : Letters} → Alike vowel (x ∷ v) (z ∷ w) → Alike vowel v' w' → Alike vowel (past_if c x v v') (past_if c z w w')
past_if_alike true r q = q
past_if_alike false r q = r

past_alike : (c : Bool) {v w : Letters} → Alike vowel v w → Alike vowel (past c v) (past c w)
past_alike c end = end
past_alike c (kept {x = x} r) = past_if_alike (is_kind c x.base) (kept r) (past_alike c r)
past_alike c (moved {x = x} sh t h r) = past_if_alike (is_kind c x.base) (moved sh t h r) (past_alike c r)

front_if_vowel : (c : Bool) (x z : Letter) (v w : Letters) → T c → front_if (not c) x v ≡ front_if (not c) z w
front_if_vowel true x z v w t = refl
front_if_vowel false x z v w t = absurd t

front_alike : {v w : Letters} → Alike vowel v w → front false v ≡ front false w
front_alike end = refl
front_alike (kept {x = x} r) = ap (front_if (is_kind false x.base) x) (front_alike r)
front_alike (moved {x = x} sh t h r) = front_if_vowel (vowel x.base) _ _ _ _ t

pub final_alike : {v w : Letters} → Alike vowel v w → final v ≡ final w
unfolding final
final_alike r = front_alike (past_alike true (past_alike false r))

-- the second horn that an appended letter puts on a u
alike_horn_on_u : (w : Letters) → Alike vowel w (horn_on_u w)
alike_horn_on_u [] = end
alike_horn_on_u (x ∷ xs) = go (eqb x.base (code "u")) (λ t. t) (alike_horn_on_u xs)
  where
    go : (b : Bool) → (T b → T (eqb x.base (code "u"))) → Alike vowel xs (horn_on_u xs) → Alike vowel (x ∷ xs) (elim b [ true ↦ shaped horn x ∷ xs | false ↦ x ∷ horn_on_u xs ])
    go true t r = moved horn (of_elem vowel x.base (code "u" ∷ []) tt (t tt)) (of_elem (carries horn) x.base (code "u" ∷ []) tt (t tt)) (alike vowel xs)
    go false t r = kept r

pub alike_second : (b : Bool) (w : Letters) → Alike vowel w (horn_on_u_if b w)
alike_second true w = alike_horn_on_u w
alike_second false w = alike vowel w

-- what a search for this shape finds: letters that are alike, with the shape off or on those that are touched
data Keeps (sh : ℕ) (v : Letters) : Found → Type 0 where
  found_none : Keeps sh v nowhere
  found_was : {g : Touched} {w : Letters} → Alike vowel v w → Reshaped plain g v w → Keeps sh v (already g w)
  found : {g : Touched} {w : Letters} → Alike vowel v w → Reshaped sh g v w → Keeps sh v (fresh g w)

keeps_behind : {sh : ℕ} {v : Letters} {x : Letter} {f : Found} → Keeps sh v f → Keeps sh (x ∷ v) (behind x f)
keeps_behind found_none = found_none
keeps_behind (found_was r t) = found_was (kept r) (later t)
keeps_behind (found r t) = found (kept r) (later t)

keeps_or : {sh : ℕ} {v : Letters} {f g : Found} → Keeps sh v f → Keeps sh v g → Keeps sh v (or_else f g)
keeps_or found_none q = q
keeps_or (found_was r t) q = found_was r t
keeps_or (found r t) q = found r t

keeps_if : {sh : ℕ} {v : Letters} (c : Bool) {f : Found} → (T c → Keeps sh v f) → Keeps sh v (if_so c f)
keeps_if true h = h tt
keeps_if false h = found_none

keeps_target : {sh : ℕ} (c : Bool) {g : Touched} {v u w : Letters} → Alike vowel v u → Reshaped plain g v u → Alike vowel v w → Reshaped sh g v w → Keeps sh v (target c g u w)
keeps_target true q t r y = found_was q t
keeps_target false q t r y = found r y

-- a vowel letter that can carry a shape
abbrev suits : ℕ → ℕ → Bool
suits sh b = vowel b && carries sh b

keeps_here : (sh : ℕ) (x : Letter) (xs : Letters) → T (suits sh x.base) → Keeps sh (x ∷ xs) (here sh x xs)
keeps_here sh x xs t =
    let v = and_l (vowel x.base) (carries sh x.base) t in
    keeps_target (eqb x.shape sh) (moved plain v tt (alike vowel xs)) one (moved sh v (and_r (vowel x.base) (carries sh x.base) t) (alike vowel xs)) one

keeps_last : (wanted : ℕ → Bool) (sh : ℕ) → ((b : ℕ) → T (wanted b) → T (suits sh b)) → (w : Letters) → Keeps sh w (last wanted sh w)
keeps_last wanted sh h [] = found_none
keeps_last wanted sh h (x ∷ xs) = keeps_or (keeps_behind (keeps_last wanted sh h xs)) (keeps_if (wanted x.base) (λ t. keeps_here sh x xs (h x.base t)))

keeps_single : (after_q : Bool) (w : Letters) → Keeps horn w (single after_q w)
keeps_single after_q [] = found_none
keeps_single after_q (x ∷ xs) =
    keeps_or
    (keeps_if (among x.base "ou" && not after_q) (λ t. keeps_here horn x xs (of_elem (suits horn) x.base (characters "ou") tt (and_l (among x.base "ou") (not after_q) t))))
    (keeps_behind (keeps_single (is_q x) xs))

keeps_pair_here : (after_q : Bool) (x : Letter) (xs : Letters) → Keeps horn (x ∷ xs) (pair_here after_q x xs)
keeps_pair_here after_q x [] = found_none
keeps_pair_here after_q x (z ∷ zs) =
    keeps_if (eqb x.base (code "u") && (eqb z.base (code "o") && not after_q)) (λ t.
    let p = of_elem (suits horn) x.base (code "u" ∷ []) tt (search and_l) in
    let q = of_elem (suits horn) z.base (code "o" ∷ []) tt (search (and_l, and_r)) in
    let vx = and_l (vowel x.base) (carries horn x.base) p in
    let vz = and_l (vowel z.base) (carries horn z.base) q in
    keeps_target (eqb x.shape horn && eqb z.shape horn)
    (moved plain vx tt (moved plain vz tt (alike vowel zs))) two
    (moved horn vx (and_r (vowel x.base) (carries horn x.base) p) (moved horn vz (and_r (vowel z.base) (carries horn z.base) q) (alike vowel zs))) two)

keeps_pair : (after_q : Bool) (w : Letters) → Keeps horn w (pair after_q w)
keeps_pair after_q [] = found_none
keeps_pair after_q (x ∷ xs) = keeps_or (keeps_pair_here after_q x xs) (keeps_behind (keeps_pair (is_q x) xs))

keeps_o_alone : (w : Letters) → Keeps horn w (o_alone w)
keeps_o_alone w = keeps_if (horns_o_alone w) (λ _. keeps_last is_o horn (λ b t. of_elem (suits horn) b (characters "o") tt t) w)

keeps_horned : (w : Letters) → Keeps horn w (horned w)
keeps_horned w = keeps_or (keeps_o_alone w) (keeps_or (keeps_pair false w) (keeps_single false w))

keeps_breved : (w : Letters) → Keeps breve w (breved w)
keeps_breved w = keeps_last is_a breve (λ b t. of_elem (suits breve) b (characters "a") tt t) w

keeps_circumflexed : (w : Letters) → Keeps circumflex w (circumflexed w)
keeps_circumflexed w = keeps_last is_aeo circumflex (λ b t. of_elem (suits circumflex) b (characters "aeo") tt t) w

keeps_circumflex_on : (o : ℕ) (w : Letters) → Keeps circumflex w (circumflex_on o w)
keeps_circumflex_on o w = keeps_last (own o) circumflex (λ b t. of_elem (suits circumflex) b (characters "aeo") tt (and_l (among b "aeo") (eqb b o) t)) w

-- an act that puts a shape on the letters that it touches
pub data Puts : Act → Touched → Letters → Letters → Type 0 where
  puts_shape : {sh : ℕ} {g : Touched} {v w : Letters} → T (not (eqb sh plain)) → Reshaped sh g v w → Puts (Shape sh) g v w
  puts_stroke : {g : Touched} {v w : Letters} → Reshaped stroke g v w → Puts Stroke g v w

-- what a key does to the letters
pub data Good (v : Letters) : Edit → Type 0 where
  good_none : Good v nothing
  good_off : (changed : ℕ → Bool) {g : Touched} {w : Letters} → Alike changed v w → Reshaped plain g v w → Good v (off g w)
  good : (changed : ℕ → Bool) {a : Act} {g : Touched} {w : Letters} → Alike changed v w → Puts a g v w → final v ≡ final w → (T (admitted v) → T (admitted w)) → Good v (change a g w)

good_first : {v : Letters} {e f : Edit} → Good v e → Good v f → Good v (first e f)
good_first good_none q = q
good_first (good_off c r t) q = good_off c r t
good_first (good c r t p h) q = good c r t p h

good_if : {v : Letters} (c : Bool) {e : Edit} → (T c → Good v e) → Good v (only_if c e)
good_if true h = h tt
good_if false h = good_none

good_asked : {v : Letters} {f : Found} (sh : ℕ) → T (not (eqb sh plain)) → Keeps sh v f → Good v (asked sh f)
good_asked sh n found_none = good_none
good_asked sh n (found_was r y) = good_off vowel r y
good_asked sh n (found {w = w} r y) = good_if (admitted w) (λ t. good vowel r (puts_shape n y) (final_alike r) (λ h. t))

pub good_shape : (h : ShapeKey) (w : Letters) → Good w (shape_edit h w)
good_shape (CircumflexOn b) w = good_asked circumflex tt (keeps_circumflex_on b w)
good_shape Circumflex w = good_asked circumflex tt (keeps_circumflexed w)
good_shape Breve w = good_asked breve tt (keeps_breved w)
good_shape Horn w = good_asked horn tt (keeps_horned w)
good_shape HornBreve w = good_first (good_asked horn tt (keeps_horned w)) (good_asked breve tt (keeps_breved w))

-- a first letter d or đ makes no difference
abbrev pub dee : ℕ → Bool → Letter
dee sh c = record { base = code "d"; shape = sh; capital = c }

pub d_admitted : (c : Bool) (xs : Letters) → admitted (dee plain c ∷ xs) ≡ admitted (dee stroke c ∷ xs)
unfolding admitted some_agrees initial nucleus final leftovers joins fit
d_admitted c xs = refl

pub d_final : (c : Bool) (xs : Letters) → final (dee plain c ∷ xs) ≡ final (dee stroke c ∷ xs)
unfolding final
d_final c xs = refl

pub is_d : (x : Letter) → T (is x (named (code "d"))) → x ≡ dee plain x.capital
is_d x t = is_letter x (named (code "d")) t

pub is_đ : (x : Letter) → T (is x (named (code "đ"))) → x ≡ dee stroke x.capital
is_đ x t = is_letter x (named (code "đ")) t

abbrev is_dee : ℕ → Bool
is_dee b = among b "d"

pub good_stroke : (w : Letters) → Good w (stroke_edit w)
good_stroke [] = good_none
good_stroke (x ∷ xs) =
    good_first
    (good_if (is x (named (code "đ"))) (λ t. subst (λ (z : Letter). Good (z ∷ xs) (off (OneLetter 0) (shaped plain z ∷ xs))) (sym (is_đ x t)) (good_off is_dee (moved plain tt tt (alike is_dee xs)) one)))
    (good_if (is x (named (code "d")) && (is_nil xs || admitted (x ∷ xs))) (λ t.
    subst (λ (z : Letter). Good (z ∷ xs) (change Stroke (OneLetter 0) (shaped stroke z ∷ xs))) (sym (is_d x (and_l (is x (named (code "d"))) (is_nil xs || admitted (x ∷ xs)) t)))
    (good is_dee (moved stroke tt tt (alike is_dee xs)) (puts_stroke one) (d_final x.capital xs) (λ h. subst T (d_admitted x.capital xs) h))))
