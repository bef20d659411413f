-- The keys of a word: a key in upper case acts as in lower; which keys are allowed; how many there are.
use mathlib.Core.Path.{◌≡◌, refl, sym, ap, ap₂, subst, ◌∙◌}
use mathlib.Core.Bool.{Bool, true, false, ◌&&◌, ◌||◌}
use mathlib.Core.List.{List, [], ◌∷◌, ◌++◌, map}
use Prim.Native.Nat.{ℕ, suc, ◌+◌, ◌≤◌}
use Prim.Native.Char.{code}
use native.Mathlib.Omega.{arith}
use lib.Dec.{T, eqb, leb, leb→le, lit≤, not_T}
use lib.ListN.{length, length-append, length-map}
use lib.Ieee.Fits.{and_i, and_l, and_r}
use Rattle.rules.specs.Letters.{Letters, telex, vni, no_tone, dot}
use Rattle.rules.specs.KeyRoles.{is_capital, lower_if, lower, is_small, is_digit, is_key, role}
use Rattle.rules.specs.Speller.{key_of_letter, keys_after, letter_keys, tone_key, tone_keys}
use Rattle.rules.specs.Refusals.{all, is_mode}
use Rattle.rules.specs.declared.Role.{Role}
use Rattle.rules.proofs.Tests.{or_l, or_r}
use Rattle.rules.proofs.Typing.{of_modes}
use Rattle.forms.specs.Forms.{capitals}
use Rattle.rules.specs.Syllables.{bare_keys, mark_keys, Picks, this_one, a_later_one, Order, all_taken, first_this}
use Rattle.forms.proofs.KeyCourses.{Item, letter, mark, item_keys, course, role_of, bare}
use Rattle.rules.proofs.Tests.{is_false}
use Rattle.forms.proofs.CoursesTyped.{item_capitals}
use Rattle.forms.proofs.MarksAct.{six_tones}

-- a key acts by its lower case
not_capital : (k : ℕ) → T (is_capital k) → is_capital (k + 32) ≡ false
not_capital k t =
    is_false (is_capital (k + 32)) (not_T (is_capital (k + 32)) (λ h.
    omega (arith, leb→le (code "A") k (and_l (leb (code "A") k) (leb k (code "Z")) t), leb→le (k + 32) (code "Z") (and_r (leb (code "A") (k + 32)) (leb (k + 32) (code "Z")) h))))

lower_twice : (k : ℕ) → lower (lower k) ≡ lower k
lower_twice k = go (is_capital k) refl (not_capital k)
  where
    go : (b : Bool) → is_capital k ≡ b → (T b → is_capital (k + 32) ≡ false) → lower (lower_if b k) ≡ lower_if b k
    go true e h = ap (λ (c : Bool). lower_if c (k + 32)) (h tt)
    go false e h = ap (λ (c : Bool). lower_if c k) e

pub roles_lower : (mode : ℕ) (ks : List ℕ) → map (role mode) (map lower ks) ≡ map (role mode) ks
roles_lower mode [] = refl
roles_lower mode (k ∷ ks) = ap₂ (λ (r : Role) (rs : List Role). r ∷ rs) (ap (role_of mode) (lower_twice k)) (roles_lower mode ks)

-- the same in another order
picks_map : (f : ℕ → Role) {k : ℕ} {ks js : List ℕ} → Picks k ks js → Picks (f k) (map f ks) (map f js)
picks_map f this_one = this_one
picks_map f (a_later_one p) = a_later_one (picks_map f p)

pub order_map : (f : ℕ → Role) {ks js : List ℕ} → Order ks js → Order (map f ks) (map f js)
order_map f all_taken = all_taken
order_map f (first_this p o) = first_this (picks_map f p) (order_map f o)

picks_all : (f : ℕ → Bool) {k : ℕ} {ks js : List ℕ} → Picks k ks js → T (all f ks) → T (f k) × T (all f js)
picks_all f {k} (this_one {xs = xs}) t = (and_l (f k) (all f xs) t, and_r (f k) (all f xs) t)
picks_all f (a_later_one {y = y} {xs = xs} {ys = ys} p) t =
    let (h, i) = picks_all f p (and_r (f y) (all f xs) t) in
    (h, and_i (f y) (all f ys) (and_l (f y) (all f xs) t) i)

order_all : (f : ℕ → Bool) {ks js : List ℕ} → Order ks js → T (all f ks) → T (all f js)
order_all f all_taken t = tt
order_all f (first_this {x = x} {zs = zs} p o) t = let (h, i) = picks_all f p t in and_i (f x) (all f zs) h (order_all f o i)

picks_length : {k : ℕ} {ks js : List ℕ} → Picks k ks js → length ks ≡ suc (length js)
picks_length this_one = refl
picks_length (a_later_one p) = ap suc (picks_length p)

order_length : {ks js : List ℕ} → Order ks js → length ks ≡ length js
order_length all_taken = refl
order_length (first_this p o) = picks_length p ∙ ap suc (order_length o)

-- allowed keys
pub all_append : (f : ℕ → Bool) (xs ys : List ℕ) → T (all f xs) → T (all f ys) → T (all f (xs ++ ys))
all_append f [] ys t u = u
all_append f (x ∷ xs) ys t u = and_i (f x) (all f (xs ++ ys)) (and_l (f x) (all f xs) t) (all_append f xs ys (and_r (f x) (all f xs) t) u)

all_split : (f : ℕ → Bool) (xs ys : List ℕ) → T (all f (xs ++ ys)) → T (all f xs) × T (all f ys)
all_split f [] ys t = (tt, t)
all_split f (x ∷ xs) ys t =
    let (h, i) = all_split f xs ys (and_r (f x) (all f (xs ++ ys)) t) in
    (and_i (f x) (all f xs) (and_l (f x) (all f (xs ++ ys)) t) h, i)

allowed_lower : (mode k : ℕ) → T (is_key mode (lower k)) → T (is_key mode k)
allowed_lower mode k = go (is_capital k) refl
  where
    go : (b : Bool) → is_capital k ≡ b → T (is_key mode (lower_if b k)) → T (is_key mode k)
    go true e t = or_r (is_small k) (is_capital k || (eqb mode vni && is_digit k)) (or_l (is_capital k) (eqb mode vni && is_digit k) (subst T (sym e) tt))
    go false e t = t

all_lower : (mode : ℕ) (ks : List ℕ) → T (all (is_key mode) (map lower ks)) → T (all (is_key mode) ks)
all_lower mode [] t = tt
all_lower mode (k ∷ ks) t =
    and_i (is_key mode k) (all (is_key mode) ks) (allowed_lower mode k (and_l (is_key mode (lower k)) (all (is_key mode) (map lower ks)) t))
    (all_lower mode ks (and_r (is_key mode (lower k)) (all (is_key mode) (map lower ks)) t))

pub letters_allowed : (mode : ℕ) (w : Letters) → T (all (is_key mode) (bare_keys w)) → T (all (is_key mode) (mark_keys mode w)) → T (all (is_key mode) (letter_keys mode w))
letters_allowed mode [] t u = tt
letters_allowed mode (x ∷ xs) t u =
    let (h, i) = all_split (is_key mode) (keys_after mode x xs) (mark_keys mode xs) u in
    and_i (is_key mode (key_of_letter x)) (all (is_key mode) (keys_after mode x xs ++ letter_keys mode xs)) (and_l (is_key mode (key_of_letter x)) (all (is_key mode) (bare_keys xs)) t)
    (all_append (is_key mode) (keys_after mode x xs) (letter_keys mode xs) h (letters_allowed mode xs (and_r (is_key mode (key_of_letter x)) (all (is_key mode) (bare_keys xs)) t) i))

pub tone_allowed : (mode t : ℕ) → T (is_mode mode) → t ≤ dot → T (all (is_key mode) (tone_keys mode t))
tone_allowed mode t m h =
    of_modes (λ n. T (all (is_key n) (tone_keys n t)))
    (six_tones (λ n. T (all (is_key telex) (tone_keys telex n))) tt tt tt tt tt tt t h)
    (six_tones (λ n. T (all (is_key vni) (tone_keys vni n))) tt tt tt tt tt tt t h) mode m

pub order_allowed : (mode : ℕ) {ks : List ℕ} (js : List ℕ) → Order ks (map lower js) → T (all (is_key mode) ks) → T (all (is_key mode) js)
order_allowed mode js o t = all_lower mode js (order_all (is_key mode) o t)

-- how many
tone_count : (mode t : ℕ) → length (tone_keys mode t) ≤ 1
tone_count mode t = go (eqb t no_tone) (tone_key mode t)
  where
    go : (b : Bool) (k : ℕ) → length {A = ℕ} (elim b [ true ↦ [] | false ↦ k ∷ [] ]) ≤ 1
    go true k = lit≤ tt
    go false k = lit≤ tt

pub letters_count : (mode : ℕ) (w : Letters) → length (letter_keys mode w) ≡ length (bare_keys w) + length (mark_keys mode w)
letters_count mode [] = refl
letters_count mode (x ∷ xs) = simp (length-append (keys_after mode x xs) (letter_keys mode xs), length-append (keys_after mode x xs) (mark_keys mode xs), letters_count mode xs) (omega arith)

pub list_count : (mode : ℕ) (w : Letters) (t : ℕ) → length (letter_keys mode w) ≤ 8 → length (letter_keys mode w ++ tone_keys mode t) ≤ 9
list_count mode w t h = simp (length-append (letter_keys mode w) (tone_keys mode t)) (omega (arith, tone_count mode t))

pub order_count : (mode : ℕ) (w : Letters) (t : ℕ) (ks : List ℕ) → Order (tone_keys mode t ++ mark_keys mode w) (map lower ks) → length (letter_keys mode w) ≤ 8 → length (bare_keys w ++ ks) ≤ 9
order_count mode w t ks o h =
    let e : length (tone_keys mode t) + length (mark_keys mode w) ≡ length ks = sym (length-append (tone_keys mode t) (mark_keys mode w)) ∙ order_length o ∙ length-map ks lower in
    simp (length-append (bare_keys w) ks) (omega (arith, e, tone_count mode t, letters_count mode w))

-- a course's keys
pub bare_course : (w : Letters) → item_keys (map letter w) ≡ bare_keys w
bare_course [] = refl
bare_course (x ∷ w) = ap (◌∷◌ (key_of_letter x)) (bare_course w)

marks_keys : (ks : List ℕ) (xs : List Item) → item_keys (map mark ks ++ xs) ≡ ks ++ item_keys xs
marks_keys [] xs = refl
marks_keys (k ∷ ks) xs = ap (◌∷◌ k) (marks_keys ks xs)

pub course_keys : (mode : ℕ) (w : Letters) → item_keys (course mode w) ≡ letter_keys mode w
course_keys mode [] = refl
course_keys mode (x ∷ w) = ap (◌∷◌ (key_of_letter x)) (marks_keys (keys_after mode x w) (course mode w) ∙ ap (◌++◌ (keys_after mode x w)) (course_keys mode w))

-- and its capitals
pub bare_capitals : (w : Letters) → item_capitals (map letter w) ≡ capitals (bare w)
bare_capitals [] = refl
bare_capitals (x ∷ w) = ap (◌∷◌ x.capital) (bare_capitals w)

marks_capitals : (ks : List ℕ) (xs : List Item) → item_capitals (map mark ks ++ xs) ≡ item_capitals xs
marks_capitals [] xs = refl
marks_capitals (k ∷ ks) xs = marks_capitals ks xs

pub course_capitals : (mode : ℕ) (w : Letters) → item_capitals (course mode w) ≡ capitals w
course_capitals mode [] = refl
course_capitals mode (x ∷ w) = ap (◌∷◌ x.capital) (marks_capitals (keys_after mode x w) (course mode w) ∙ course_capitals mode w)

pub capitals_bare : (w : Letters) → capitals (bare w) ≡ capitals w
capitals_bare [] = refl
capitals_bare (x ∷ w) = ap (◌∷◌ x.capital) (capitals_bare w)
