-- A step on a record in range leaves a record in range, with arrays of the same length and as many places of keys as letters.
use Rattle.std.specs.Prelude.{Option, Some, None, Ok}
use mathlib.Core.Path.{◌≡◌, refl, sym, ap, subst, ◌∙◌}
use mathlib.Core.Bool.{Bool, true, false, not, ◌&&◌}
use mathlib.Core.List.{List, [], ◌∷◌, ◌++◌, map}
use Prim.Native.Nat.{ℕ, zero, suc, ◌+◌, ◌≤◌}
use native.Mathlib.Omega.{arith}
use lib.Dec.{T, eqb, leb, leb→le, ltb→lt, lt→ltb, nltb→le, lit≤}
use lib.ListN.{length, take, drop, set, length-set, length-append, length-map, length-take, length-drop}
use lib.Seq.{take_at, length-take-le}
use lib.Ieee.Fits.{and_i, and_l, and_r}
use Rattle.rules.specs.Letters.{Letter, no_tone, dot, telex, vni}
use Rattle.rules.specs.TheWord.{State, Typed, Done, acted, undone, appended, state_of, outcome_of, is_acted, is_undone, is_appended, one_more, no_key, shaped_on, appended_after, shaped_after, toned_after, counted, most_keys, letter, number, word_of, at_front, holding}
use Rattle.rules.specs.KeyRoles.{is_key, letter_of_key, lower, role_in, telex_roles, vni_roles, role, takes_second_horn, append, is_added, close, undo, with_letters, with_tone, undo_if, act_if, tone_goes, Edit, edit_does, role_does, unless_closed, key_does, type}
use Rattle.rules.specs.Refusals.{all, is_place, is_place_or_none, out_of_range, table, refusal, NoneHolds, not_this}
use Rattle.rules.specs.WhatComesBack.{step_call, step_or, step}
use Rattle.rules.specs.declared.Word.{Word}
use Rattle.rules.specs.declared.Outcome.{Outcome}
use Rattle.rules.specs.declared.Outcome.TheVariants.{Acted, Undone, Appended}
use Rattle.rules.specs.declared.Refusal.{Refusal}
use Rattle.rules.specs.declared.Touched.{Touched}
use Rattle.rules.specs.declared.Touched.TheVariants.{NoLetter, OneLetter, TwoLetters}
use Rattle.rules.specs.declared.Act.{Act}
use Rattle.rules.specs.declared.Act.TheVariants.{Tone, Shape, Stroke, Clear}
use Rattle.rules.specs.declared.Role.{Role}
use Rattle.rules.specs.declared.Role.TheVariants.{ToneRole, ShapeRole, StrokeRole, NoRole}
use Rattle.rules.specs.declared.ToneKey.TheVariants.{SetTone, ClearTone}
use Rattle.rules.proofs.Tests.{either, or_l, or_r}
use Rattle.rules.proofs.Edits.{Good, good_none, good_off, good, good_shape, good_stroke, length_alike, alike_second}
use Rattle.rules.specs.LettersOfAMode.{Fine, AllFine}
use Rattle.rules.proofs.Numbers.{NumbersInRange, numbers_in_range, fine_letters, fine_alike, fine_append, fine_key}
use Rattle.rules.proofs.Range.{InRange, in_range, range_in, not_not}
use Rattle.rules.proofs.Refused.{refusal_none}

-- letters that the mode can hold, and a tone that exists
pub record StateFine (mode : ℕ) (s : State) : Type 0 where
  pub letters : AllFine mode s.letters
  pub tone : s.tone ≤ dot

-- how many letters there are after a key that acts, undoes or is appended
abbrev pub grown : Done → ℕ → ℕ
grown (acted a g s) n = n
grown (undone g s) n = n + 1
grown (appended g s) n = n + 1

no_fewer : (d : Done) (n : ℕ) → (n ≤ grown d n) × (grown d n ≤ n + 1)
no_fewer (acted a g s) n = (omega arith, omega arith)
no_fewer (undone g s) n = (omega arith, omega arith)
no_fewer (appended g s) n = (omega arith, omega arith)

-- what a key leaves: such a state, as long or one letter longer
pub record Next (mode : ℕ) (s : State) (d : Done) : Type 0 where
  pub fine : StateFine mode (state_of d)
  pub long : length (state_of d).letters ≡ grown d (length s.letters)

pub no_shorter : {mode : ℕ} {s : State} {d : Done} → Next mode s d → length s.letters ≤ length (state_of d).letters
no_shorter {s = s} {d = d} n = omega (arith, n.long, no_fewer d (length s.letters))

-- appending: one letter more
append_longer : (s : State) (k : Letter) → length (append s k).letters ≡ length s.letters + 1
append_longer s k = simp length-append (omega (arith, length_alike (alike_second (takes_second_horn s k) s.letters)))

append_fine : {mode : ℕ} (s : State) (k : Letter) → StateFine mode s → Fine mode k → StateFine mode (append s k)
append_fine s k h f = record { letters = fine_append (fine_alike (alike_second (takes_second_horn s k) s.letters) h.letters) f; tone = h.tone }

next_append : {mode : ℕ} {s : State} {k : Letter} → StateFine mode s → Fine mode k → Next mode s (is_added s k)
next_append {s = s} {k = k} h f = record { fine = append_fine s k h f; long = append_longer s k }

-- an undo of letters of the same number, with a tone that exists
next_undo : {mode : ℕ} (s u : State) (k : Letter) {g : Touched} → StateFine mode u → length s.letters ≡ length u.letters → Fine mode k → Next mode s (undone g (undo u k))
next_undo s u k h e f =
    record {
      fine = append_fine (close u) k (record { letters = h.letters; tone = h.tone }) f;
      long = append_longer (close u) k ∙ ap (λ (n : ℕ). n + 1) (sym e);
    }

next_act : {mode : ℕ} (s u : State) {a : Act} {g : Touched} → StateFine mode u → length s.letters ≡ length u.letters → Next mode s (acted a g u)
next_act s u h e = record { fine = h; long = sym e }

-- each rule
next_undo_if : {mode : ℕ} {s u : State} {d : Done} (c : Bool) → Next mode s (undone NoLetter u) → Next mode s d → Next mode s (undo_if c u d)
next_undo_if true n m = n
next_undo_if false n m = m

next_act_if : {mode : ℕ} {s t : State} {d : Done} {a : Act} (c : Bool) → Next mode s (acted a NoLetter t) → Next mode s d → Next mode s (act_if c a t d)
next_act_if true n m = n
next_act_if false n m = m

next_edit : {mode : ℕ} (s : State) (k : Letter) {e : Edit} → StateFine mode s → Fine mode k → Good s.letters e → Next mode s (edit_does e s k)
next_edit s k h f good_none = next_append h f
next_edit s k h f (good_off c {w = w} r y) = next_undo s (with_letters s w) k (record { letters = fine_alike r h.letters; tone = h.tone }) (length_alike r) f
next_edit s k h f (good c {w = w} r y p q) = next_act s (with_letters s w) (record { letters = fine_alike r h.letters; tone = h.tone }) (length_alike r)

-- every tone that a role sets exists
abbrev existing : Role → Bool
existing (ToneRole (SetTone t)) = leb t dot
existing (ToneRole ClearTone) = true
existing (ShapeRole h) = true
existing StrokeRole = true
existing NoRole = true

-- what each role of a table passes, the role of any key passes
abbrev all_roles : (Role → Bool) → List (ℕ × Role) → Bool
all_roles f [] = true
all_roles f (x ∷ xs) = f x.1 && all_roles f xs

pub of_table : (f : Role → Bool) (xs : List (ℕ × Role)) (b : ℕ) → T (all_roles f xs) → T (f NoRole) → T (f (role_in xs b))
of_table f [] b t n = n
of_table f (x ∷ xs) b t n = go (eqb b x.0) (role_in xs b) (and_l (f x.1) (all_roles f xs) t) (of_table f xs b (and_r (f x.1) (all_roles f xs) t) n)
  where
    go : (c : Bool) (r : Role) → T (f x.1) → T (f r) → T (f (elim c [ true ↦ x.1 | false ↦ r ]))
    go true r p q = p
    go false r p q = q

-- a role is one of the two tables', or none
pub of_role : (f : Role → Bool) (mode k : ℕ) → T (f (role_in telex_roles (lower k))) → T (f (role_in vni_roles (lower k))) → T (f NoRole) → T (f (role mode k))
of_role f mode k t v n = go (eqb mode telex) (eqb mode vni)
  where
    go : (c d : Bool) → T (f (elim c [ true ↦ role_in telex_roles (lower k) | false ↦ elim d [ true ↦ role_in vni_roles (lower k) | false ↦ NoRole ] ]))
    go true d = t
    go false true = v
    go false false = n

role_exists : (mode k : ℕ) → T (existing (role mode k))
role_exists mode k = of_role existing mode k (of_table existing telex_roles (lower k) tt tt) (of_table existing vni_roles (lower k) tt tt) tt

next_role : {mode : ℕ} (r : Role) (s : State) (k : Letter) → T (existing r) → StateFine mode s → Fine mode k → Next mode s (role_does r s k)
next_role (ToneRole (SetTone t)) s k e h f =
    next_undo_if (eqb s.tone t) (next_undo s (with_tone s no_tone) k (record { letters = h.letters; tone = lit≤ tt }) refl f)
    (next_act_if (tone_goes t s.letters) (next_act s (with_tone s t) (record { letters = h.letters; tone = leb→le t dot e }) refl) (next_append h f))
next_role (ToneRole ClearTone) s k e h f =
    next_act_if (not (eqb s.tone no_tone)) (next_act s (with_tone s no_tone) (record { letters = h.letters; tone = lit≤ tt }) refl) (next_append h f)
next_role (ShapeRole g) s k e h f = next_edit s k h f (good_shape g s.letters)
next_role StrokeRole s k e h f = next_edit s k h f (good_stroke s.letters)
next_role NoRole s k e h f = next_append h f

next_unless_closed : {mode : ℕ} (c : Bool) (r : Role) (s : State) (k : Letter) → T (existing r) → StateFine mode s → Fine mode k → Next mode s (unless_closed c r s k)
next_unless_closed true r s k e h f = next_append h f
next_unless_closed false r s k e h f = next_role r s k e h f

pub next : (z : Typed) (k : ℕ) → T (is_key z.mode k) → StateFine z.mode z.state → Next z.mode z.state (key_does z k)
next z k t h = next_unless_closed z.state.closed (role z.mode k) z.state (letter_of_key k) (role_exists z.mode k) h (fine_key z.mode k t)

-- the counts: one of the three is one more
pub sum_more : (o : Outcome) (a u p : ℕ) → one_more (is_acted o) a + one_more (is_undone o) u + one_more (is_appended o) p ≡ a + u + p + 1
sum_more (Acted x) a u p = omega arith
sum_more Undone a u p = omega arith
sum_more Appended a u p = omega arith

-- the arrays of a record have 32 places
pub record Whole (w : Word) : Type 0 where
  pub letters : length w.letters ≡ most_keys
  pub by : length w.appended_by ≡ most_keys
  pub shaped_by : length w.shaped_by ≡ most_keys
  pub keys : length w.keys ≡ most_keys

all_append : (f : ℕ → Bool) (xs ys : List ℕ) → T (all f xs) → T (all f ys) → T (all f (xs ++ ys))
all_append f [] ys t u = u
all_append f (x ∷ xs) ys t u = and_i (f x) (all f (xs ++ ys)) (and_l (f x) (all f xs) t) (all_append f xs ys (and_r (f x) (all f xs) t) u)

all_weaker : (f g : ℕ → Bool) → ((x : ℕ) → T (f x) → T (g x)) → (xs : List ℕ) → T (all f xs) → T (all g xs)
all_weaker f g h [] t = tt
all_weaker f g h (x ∷ xs) t = and_i (g x) (all g xs) (h x (and_l (f x) (all f xs) t)) (all_weaker f g h xs (and_r (f x) (all f xs) t))

all_set : (f : ℕ → Bool) (xs : List ℕ) (i x : ℕ) → T (all f xs) → T (f x) → T (all f (set xs i x))
all_set f [] i x t u = tt
all_set f (y ∷ ys) zero x t u = and_i (f x) (all f ys) u (and_r (f y) (all f ys) t)
all_set f (y ∷ ys) (suc i) x t u = and_i (f y) (all f (set ys i x)) (and_l (f y) (all f ys) t) (all_set f ys i x (and_r (f y) (all f ys) t) u)

-- places of keys: as many as letters,
pub record Abreast (z : Typed) : Type 0 where
  pub by : length z.places.appended_by ≡ length z.state.letters
  pub shaped_by : length z.places.shaped_by ≡ length z.state.letters

pub length_shaped_on : (p : ℕ) (g : Touched) (ps : List ℕ) → length (shaped_on p g ps) ≡ length ps
length_shaped_on p NoLetter ps = refl
length_shaped_on p (OneLetter i) ps = length-set ps i p
length_shaped_on p (TwoLetters i) ps = length-set (set ps i p) (suc i) p ∙ length-set ps i p

length_by : (here : ℕ) (ps : List ℕ) (d : Done) → length (appended_after here ps d) ≡ grown d (length ps)
length_by here ps (acted a g s) = refl
length_by here ps (undone g s) = length-append ps (here ∷ [])
length_by here ps (appended g s) = length-append ps (here ∷ [])

length_shaped : (here : ℕ) (ps : List ℕ) (d : Done) → length (shaped_after here ps d) ≡ grown d (length ps)
length_shaped here ps (acted a g s) = length_shaped_on here g ps
length_shaped here ps (undone g s) = length-append (shaped_on no_key g ps) (no_key ∷ []) ∙ ap (λ (n : ℕ). n + 1) (length_shaped_on no_key g ps)
length_shaped here ps (appended g s) = length-append (shaped_on here g ps) (no_key ∷ []) ∙ ap (λ (n : ℕ). n + 1) (length_shaped_on here g ps)

pub abreast_next : {mode : ℕ} (z : Typed) (k : ℕ) → Next mode z.state (key_does z k) → Abreast z → Abreast (type z k)
abreast_next z k n a =
    let d = key_does z k in
    record {
      by = length_by (length z.keys) z.places.appended_by d ∙ ap (grown d) a.by ∙ sym n.long;
      shaped_by = length_shaped (length z.keys) z.places.shaped_by d ∙ ap (grown d) a.shaped_by ∙ sym n.long;
    }

-- and below the number of keys, or none
below_more : (n p : ℕ) → T (is_place n p) → T (is_place (n + 1) p)
below_more n p t = lt→ltb p (n + 1) (omega (arith, ltb→lt p n t))

or_none : (n p : ℕ) → T (is_place n p) → T (is_place_or_none n p)
or_none n p t = or_r (eqb p no_key) (is_place n p) t

more_or_none : (n p : ℕ) → T (is_place_or_none n p) → T (is_place_or_none (n + 1) p)
more_or_none n p = either (eqb p no_key) (is_place n p) (λ t. or_l (eqb p no_key) (is_place (n + 1) p) t) (λ t. or_none (n + 1) p (below_more n p t))

here_below : (n : ℕ) → T (is_place (n + 1) n)
here_below n = lt→ltb n (n + 1) (omega arith)

all_shaped_on : (f : ℕ → Bool) (p : ℕ) (g : Touched) (ps : List ℕ) → T (all f ps) → T (f p) → T (all f (shaped_on p g ps))
all_shaped_on f p NoLetter ps t u = t
all_shaped_on f p (OneLetter i) ps t u = all_set f ps i p t u
all_shaped_on f p (TwoLetters i) ps t u = all_set f (set ps i p) (suc i) p (all_set f ps i p t u) u

module _ (n : ℕ) where
  by_below : (ps : List ℕ) (d : Done) → T (all (is_place n) ps) → T (all (is_place (n + 1)) (appended_after n ps d))
  by_below ps (acted a g s) t = all_weaker (is_place n) (is_place (n + 1)) (below_more n) ps t
  by_below ps (undone g s) t = all_append (is_place (n + 1)) ps (n ∷ []) (all_weaker (is_place n) (is_place (n + 1)) (below_more n) ps t) (and_i (is_place (n + 1) n) true (here_below n) tt)
  by_below ps (appended g s) t = all_append (is_place (n + 1)) ps (n ∷ []) (all_weaker (is_place n) (is_place (n + 1)) (below_more n) ps t) (and_i (is_place (n + 1) n) true (here_below n) tt)

  shaped_below : (ps : List ℕ) (d : Done) → T (all (is_place_or_none n) ps) → T (all (is_place_or_none (n + 1)) (shaped_after n ps d))
  shaped_below ps d t = go d (all_weaker (is_place_or_none n) (is_place_or_none (n + 1)) (more_or_none n) ps t)
    where
      go : (d : Done) → T (all (is_place_or_none (n + 1)) ps) → T (all (is_place_or_none (n + 1)) (shaped_after n ps d))
      go (acted a g s) u = all_shaped_on (is_place_or_none (n + 1)) n g ps u (or_none (n + 1) n (here_below n))
      go (undone g s) u = all_append (is_place_or_none (n + 1)) (shaped_on no_key g ps) (no_key ∷ []) (all_shaped_on (is_place_or_none (n + 1)) no_key g ps u tt) tt
      go (appended g s) u = all_append (is_place_or_none (n + 1)) (shaped_on n g ps) (no_key ∷ []) (all_shaped_on (is_place_or_none (n + 1)) n g ps u (or_none (n + 1) n (here_below n))) tt

  toned_below : (p : ℕ) (d : Done) → T (is_place_or_none n p) → T (is_place_or_none (n + 1) (toned_after n p d))
  toned_below p (acted (Tone x) g s) t = or_none (n + 1) n (here_below n)
  toned_below p (acted (Shape sh) g s) t = more_or_none n p t
  toned_below p (acted Stroke g s) t = more_or_none n p t
  toned_below p (acted Clear g s) t = tt
  toned_below p (undone NoLetter s) t = tt
  toned_below p (undone (OneLetter i) s) t = more_or_none n p t
  toned_below p (undone (TwoLetters i) s) t = more_or_none n p t
  toned_below p (appended g s) t = more_or_none n p t

-- the word that a record in range holds
pub state_fine : (w : Word) → InRange w → StateFine w.mode (word_of w).state
state_fine w r = record { letters = fine_letters (take w.count w.letters) r.letters; tone = r.tone }

length_front : (new old : List ℕ) → length new ≤ length old → length (at_front new old) ≡ length old
length_front new old h = simp (length-append, length-drop) (omega arith)

-- what stands in front is read again
pub read_front : (new old : List ℕ) (n : ℕ) → length new ≡ n → take n (at_front new old) ≡ new
read_front new old n e = take_at new (drop (length new) old) n e

pub abreast_of : (w : Word) → Whole w → w.count ≤ most_keys → Abreast (word_of w)
abreast_of w whole h =
    let n : length (map letter (take w.count w.letters)) ≡ w.count = length-map (take w.count w.letters) letter ∙ length-take-le w.count w.letters (omega (arith, whole.letters)) in
    record {
      by = length-take-le w.count w.appended_by (omega (arith, whole.by)) ∙ sym n;
      shaped_by = length-take-le w.count w.shaped_by (omega (arith, whole.shaped_by)) ∙ sym n;
    }

abbrev after : Word → ℕ → Word
after w k = holding w (counted (word_of w) k (key_does (word_of w) k))

letters_read : (n : ℕ) (ns : List ℕ) → length (map letter (take n ns)) ≤ n
letters_read n ns = simp (length-map, length-take) (omega arith)

module _ (w : Word) (k : ℕ) (whole : Whole w) (r : InRange w) (room : w.typed + 1 ≤ most_keys) (key : T (is_key w.mode k)) where
  left : Next w.mode (word_of w).state (key_does (word_of w) k)
  left = next (word_of w) k key (state_fine w r)

  keys_left : length ((word_of w).keys ++ (k ∷ [])) ≡ w.typed + 1
  keys_left = simp (length-append, length-take-le w.typed w.keys (omega (arith, whole.keys, r.typed)))

  letters_left : length (state_of (key_does (word_of w) k)).letters ≤ w.count + 1
  letters_left = omega (arith, left.long, no_fewer (key_does (word_of w) k) (length (word_of w).state.letters), letters_read w.count w.letters)

  -- as many places of keys as letters
  abreast_left : Abreast (type (word_of w) k)
  abreast_left = abreast_next (word_of w) k left (abreast_of w whole r.count)

  typed_left : length (word_of w).keys ≡ w.typed
  typed_left = length-take-le w.typed w.keys (omega (arith, whole.keys, r.typed))

  sum_left : (after w k).acted + (after w k).undone + (after w k).appended ≡ w.typed + 1
  sum_left = sum_more (outcome_of (key_does (word_of w) k)) w.acted w.undone w.appended ∙ ap (λ (n : ℕ). n + 1) r.sum

  -- places below the number of keys before the key are so after it, in front of the array
  all_at : (f : ℕ → ℕ → Bool) (old new array : List ℕ) → length new ≡ (after w k).count → (T (all (f (length (word_of w).keys)) old) → T (all (f (length (word_of w).keys + 1)) new)) →
      T (all (f w.typed) old) → T (all (f (after w k).typed) (take (after w k).count (at_front new array)))
  all_at f old new array e h t =
      subst (λ (xs : List ℕ). T (all (f (after w k).typed) xs)) (sym (read_front new array (after w k).count e))
      (subst (λ (n : ℕ). T (all (f n) new)) (sym (length-append (word_of w).keys (k ∷ []))) (h (subst (λ (n : ℕ). T (all (f n) old)) (sym typed_left) t)))

  after_in_range : InRange (after w k)
  after_in_range =
      let ks = (word_of w).keys ++ (k ∷ []) in
      let ls = (state_of (key_does (word_of w) k)).letters in
      record {
        typed = omega (arith, keys_left);
        count = omega (arith, letters_left, r.fewer);
        acted = omega (arith, sum_left);
        undone = omega (arith, sum_left);
        appended = omega (arith, sum_left);
        fewer = omega (arith, keys_left, letters_left, r.fewer);
        sum = sum_left ∙ sym keys_left;
        keys = subst (λ (xs : List ℕ). T (all (is_key w.mode) xs)) (sym (read_front ks w.keys (length ks) refl)) (all_append (is_key w.mode) (word_of w).keys (k ∷ []) r.keys (and_i (is_key w.mode k) true key tt));
        letters = subst (NumbersInRange w.mode) (sym (read_front (map number ls) w.letters (length ls) (length-map ls number))) (numbers_in_range left.fine.letters);
        tone = left.fine.tone;
        mode = r.mode;
        by = all_at is_place (word_of w).places.appended_by (type (word_of w) k).places.appended_by w.appended_by abreast_left.by (by_below (length (word_of w).keys) (word_of w).places.appended_by (key_does (word_of w) k)) r.by;
        shaped_by = all_at is_place_or_none (word_of w).places.shaped_by (type (word_of w) k).places.shaped_by w.shaped_by abreast_left.shaped_by (shaped_below (length (word_of w).keys) (word_of w).places.shaped_by (key_does (word_of w) k)) r.shaped_by;
        toned_by = subst (λ (n : ℕ). T (is_place_or_none n (type (word_of w) k).places.toned_by)) (sym (length-append (word_of w).keys (k ∷ []))) (toned_below (length (word_of w).keys) w.toned_by (key_does (word_of w) k) (subst (λ (n : ℕ). T (is_place_or_none n w.toned_by)) (sym typed_left) r.toned_by));
      }

  after_whole : Whole (after w k)
  after_whole =
      record {
        letters = length_front (map number (state_of (key_does (word_of w) k)).letters) w.letters (simp length-map (omega (arith, letters_left, r.fewer, whole.letters))) ∙ whole.letters;
        by = length_front (type (word_of w) k).places.appended_by w.appended_by (omega (arith, abreast_left.by, letters_left, r.fewer, whole.by)) ∙ whole.by;
        shaped_by = length_front (type (word_of w) k).places.shaped_by w.shaped_by (omega (arith, abreast_left.shaped_by, letters_left, r.fewer, whole.shaped_by)) ∙ whole.shaped_by;
        keys = length_front ((word_of w).keys ++ (k ∷ [])) w.keys (omega (arith, keys_left, whole.keys)) ∙ whole.keys;
      }

-- a step that is not refused finds the record in range, room for the key, and the key allowed
pub record Taken (w : Word) (k : ℕ) : Type 0 where
  pub range : T (not (out_of_range w))
  pub room : w.typed + 1 ≤ most_keys
  pub key : T (is_key w.mode k)

pub taken : (w : Word) (k : ℕ) → NoneHolds (table (step_call w k)) → Taken w k
taken w k (not_this range (not_this mode (not_this full (not_this text (not_this byte more))))) =
    record { range = range; room = nltb→le most_keys (w.typed + 1) full; key = and_l (is_key w.mode k) true (not_not (is_key w.mode k && true) byte) }

pub taken_by : (w : Word) (k : ℕ) (o : Outcome) → (step w k).answer ≡ Ok o → Taken w k
unfolding step
taken_by w k o e = go (refusal (step_call w k)) refl e
  where
    go : (f : Option Refusal) → refusal (step_call w k) ≡ f → (step_or f w k).answer ≡ Ok o → Taken w k
    go (Some x) r e = let z : ◌≡◌ {A = ℕ} 0 1 = cc in absurd (omega arith)
    go None r e = taken w k ((refusal_none (step_call w k)).0 r)

pub step_in_range : (w : Word) (k : ℕ) → Whole w → T (not (out_of_range w)) → T (not (out_of_range (step w k).word)) × Whole (step w k).word
unfolding step
step_in_range w k whole t = go (refusal (step_call w k)) refl
  where
    go : (o : Option Refusal) → refusal (step_call w k) ≡ o → T (not (out_of_range (step_or o w k).word)) × Whole (step_or o w k).word
    go (Some x) e = (t, whole)
    go None e =
        let a = taken w k ((refusal_none (step_call w k)).0 e) in
        (range_in (after w k) (after_in_range w k whole (in_range w t) a.room a.key), after_whole w k whole (in_range w t) a.room a.key)
