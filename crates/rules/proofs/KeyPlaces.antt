-- Which key made which letter, of typed words: what a key leaves of the letters and of the places of keys, whatever its role; and so `PlacesTold` of specs/KeyPlaces.antt.
use Rattle.std.specs.Prelude.{Ok}
use mathlib.Core.Path.{◌≡◌, refl, sym, ap, subst, ◌∙◌}
use mathlib.Core.Bool.{Bool, true, false, not, ◌&&◌, ◌||◌}
use mathlib.Core.List.{List, [], ◌∷◌, ◌++◌, map}
use Prim.Native.Nat.{ℕ, zero, suc, ◌+◌, ◌≤◌, ◌<◌}
use Prim.Native.Char.{code}
use native.Mathlib.Nat.{not-suc-le-zero, le_of_suc-le-suc}
use native.Mathlib.Omega.{arith}
use lib.Dec.{T, eqb, eqb→eq, not_T}
use lib.ListN.{length, take, get_or, length-append, length-map}
use lib.Seq.{get_or-append_seam, get_or-take, length-take-le}
use lib.Ieee.Fits.{and_l, and_r}
use Rattle.rules.specs.Letters.{Letter, Letters, plain, horn, no_tone, words}
use Rattle.rules.specs.TheWord.{State, Typed, Done, acted, undone, appended, most_keys, no_key, letter, new_word, word_of, holding, shaped_on, toned_by_undo, counted}
use Rattle.rules.specs.KeyRoles.{letter_of_key, lower, telex_roles, vni_roles, role, shaped, one_further, awaits_second_horn, asks_second_horn, takes_second_horn, horn_on_u, horn_on_u_if, place_of_u, touched_if, is_added, with_letters, with_tone, undo, undo_if, act_if, tone_goes, Edit, edit_does, role_does, unless_closed, key_does, type, type_list}
use Rattle.rules.specs.WhatComesBack.{typed, type_all}
use Rattle.rules.specs.KeyPlaces.{PlacesTold}
use Rattle.rules.specs.declared.Word.{Word}
use Rattle.rules.specs.declared.Touched.{Touched}
use Rattle.rules.specs.declared.Touched.TheVariants.{NoLetter, OneLetter, TwoLetters}
use Rattle.rules.specs.declared.Act.{Act}
use Rattle.rules.specs.declared.Act.TheVariants.{Tone, Clear}
use Rattle.rules.specs.declared.Role.{Role}
use Rattle.rules.specs.declared.Role.TheVariants.{ToneRole, ShapeRole, StrokeRole, NoRole}
use Rattle.rules.specs.declared.ToneKey.TheVariants.{SetTone, ClearTone}
use Rattle.rules.proofs.Tests.{is_false}
use Rattle.rules.proofs.Words.{bases, of_words}
use Rattle.rules.proofs.Edits.{Reshaped, one, two, later, Puts, puts_shape, puts_stroke, Good, good_none, good_off, good, good_shape, good_stroke}
use Rattle.rules.proofs.Range.{in_range}
use Rattle.rules.proofs.StaysInRange.{Whole, of_role, of_table}
use Rattle.rules.proofs.Records.{word_held}
use Rattle.rules.proofs.NotRefused.{typed_as, typed_held, few_keys}

-- what a key leaves, whatever its role
pub data Leaves (s : State) (k : Letter) : Done → Type 0 where
  sets_tone : (t : ℕ) → T (not (eqb t no_tone)) → T (not (eqb s.tone t)) → Leaves s k (acted (Tone t) NoLetter (with_tone s t))
  clears_tone : T (not (eqb s.tone no_tone)) → Leaves s k (acted Clear NoLetter (with_tone s no_tone))
  puts_on : {a : Act} {g : Touched} {w : Letters} → Puts a g s.letters w → Leaves s k (acted a g (with_letters s w))
  tone_off : T (not (eqb s.tone no_tone)) → Leaves s k (undone NoLetter (undo (with_tone s no_tone) k))
  shape_off : {g : Touched} {w : Letters} → Reshaped plain g s.letters w → Leaves s k (undone g (undo (with_letters s w) k))
  added_plainly : Leaves s k (appended NoLetter (record { letters = s.letters ++ (k ∷ []); tone = s.tone; closed = s.closed }))
  added_horning : {g : Touched} {w : Letters} → Reshaped horn g s.letters w → Leaves s k (appended g (record { letters = w ++ (k ∷ []); tone = s.tone; closed = s.closed }))

-- the u that an appended letter puts the horn on is there
abbrev has_u : List ℕ → Bool
has_u [] = false
has_u (b ∷ bs) = eqb b (code "u") || has_u bs

horn_there : (w : Letters) → T (has_u (bases w)) → Reshaped horn (OneLetter (place_of_u w)) w (horn_on_u w)
horn_there [] t = absurd t
horn_there (x ∷ xs) t = go (eqb x.base (code "u")) (horn_there xs) t
  where
    go : (b : Bool) → (T (has_u (bases xs)) → Reshaped horn (OneLetter (place_of_u xs)) xs (horn_on_u xs)) → T (b || has_u (bases xs)) → Reshaped horn (OneLetter (elim b [ true ↦ 0 | false ↦ suc (place_of_u xs) ])) (x ∷ xs) (elim b [ true ↦ shaped horn x ∷ xs | false ↦ x ∷ horn_on_u xs ])
    go true r t = one
    go false r t = later (r t)

leaves_added : (s : State) (k : Letter) → Leaves s k (is_added s k)
leaves_added s k = go (takes_second_horn s k) (λ t. and_l (awaits_second_horn s.letters) (asks_second_horn k.base) (and_r (not s.closed) (awaits_second_horn s.letters && asks_second_horn k.base) t))
  where
    go : (b : Bool) → (T b → T (awaits_second_horn s.letters)) →
        Leaves s k (appended (touched_if b s.letters) (record { letters = horn_on_u_if b s.letters ++ (k ∷ []); tone = s.tone; closed = s.closed }))
    go true h = added_horning (horn_there s.letters (of_words has_u s.letters (words "huơ khuơ thuơ") tt (h tt)))
    go false h = added_plainly

leaves_edit : (s : State) (k : Letter) {e : Edit} → Good s.letters e → Leaves s k (edit_does e s k)
leaves_edit s k good_none = leaves_added s k
leaves_edit s k (good_off c r y) = shape_off y
leaves_edit s k (good c r y p h) = puts_on y

leaves_undo_if : {s u : State} {k : Letter} {d : Done} (c : Bool) → (T c → Leaves s k (undone NoLetter u)) → (T (not c) → Leaves s k d) → Leaves s k (undo_if c u d)
leaves_undo_if true n m = n tt
leaves_undo_if false n m = m tt

leaves_act_if : {s t : State} {k : Letter} {d : Done} {a : Act} (c : Bool) → (T c → Leaves s k (acted a NoLetter t)) → Leaves s k d → Leaves s k (act_if c a t d)
leaves_act_if true n m = n tt
leaves_act_if false n m = m

-- no role sets tone 0
abbrev marks : Role → Bool
marks (ToneRole (SetTone t)) = not (eqb t no_tone)
marks (ToneRole ClearTone) = true
marks (ShapeRole h) = true
marks StrokeRole = true
marks NoRole = true

leaves_role : (r : Role) (s : State) (k : Letter) → T (marks r) → Leaves s k (role_does r s k)
leaves_role (ToneRole (SetTone t)) s k m =
    leaves_undo_if (eqb s.tone t) (λ e. tone_off (subst (λ (n : ℕ). T (not (eqb n no_tone))) (sym (eqb→eq s.tone t e)) m))
    (λ n. leaves_act_if (tone_goes t s.letters) (λ _. sets_tone t m n) (leaves_added s k))
leaves_role (ToneRole ClearTone) s k m = leaves_act_if (not (eqb s.tone no_tone)) (λ n. clears_tone n) (leaves_added s k)
leaves_role (ShapeRole h) s k m = leaves_edit s k (good_shape h s.letters)
leaves_role StrokeRole s k m = leaves_edit s k (good_stroke s.letters)
leaves_role NoRole s k m = leaves_added s k

pub leaves : (z : Typed) (k : ℕ) → Leaves z.state (letter_of_key k) (key_does z k)
leaves z k = go z.state.closed (of_role marks z.mode k (of_table marks telex_roles (lower k) tt tt) (of_table marks vni_roles (lower k) tt tt) tt)
  where
    go : (c : Bool) → T (marks (role z.mode k)) → Leaves z.state (letter_of_key k) (unless_closed c (role z.mode k) z.state (letter_of_key k))
    go true m = leaves_added z.state (letter_of_key k)
    go false m = leaves_role (role z.mode k) z.state (letter_of_key k) m

-- a letter and its two places: its own key, and a key that shaped it exactly where it is not plain
record Told (keys : List ℕ) (x : Letter) (by shaper : ℕ) : Type 0 where
  own : letter_of_key (get_or keys by 0) ≡ shaped plain x
  below : by < length keys
  mark : eqb shaper no_key ≡ eqb x.shape plain

-- and so for all letters, with places that rise, from a least one on
data AllTold (keys : List ℕ) : ℕ → Letters → List ℕ → List ℕ → Type 0 where
  none_told : {n : ℕ} → AllTold keys n [] [] []
  and_told : {n : ℕ} {x : Letter} {b s : ℕ} {w : Letters} {bs ss : List ℕ} → n ≤ b → Told keys x b s → AllTold keys (suc b) w bs ss → AllTold keys n (x ∷ w) (b ∷ bs) (s ∷ ss)

-- shapes put on or taken off
further_on : (p : ℕ) (g : Touched) (s : ℕ) (ss : List ℕ) → s ∷ shaped_on p g ss ≡ shaped_on p (one_further g) (s ∷ ss)
further_on p NoLetter s ss = refl
further_on p (OneLetter i) s ss = refl
further_on p (TwoLetters i) s ss = refl

reshaped_told : {keys : List ℕ} {sh n : ℕ} {g : Touched} {v w : Letters} {bs ss : List ℕ} (p : ℕ) → eqb p no_key ≡ eqb sh plain → Reshaped sh g v w → AllTold keys n v bs ss → AllTold keys n w bs (shaped_on p g ss)
reshaped_told p e one (and_told h t r) = and_told h (record { own = t.own; below = t.below; mark = e }) r
reshaped_told p e two (and_told h t (and_told i u r)) = and_told h (record { own = t.own; below = t.below; mark = e }) (and_told i (record { own = u.own; below = u.below; mark = e }) r)
reshaped_told {keys} {n = n} p e (later {g = g} {x = x} {w = w} y) (and_told {b = b} {s = s} {bs = bs} {ss = ss} h t r) =
    subst (AllTold keys n (x ∷ w) (b ∷ bs)) (further_on p g s ss) (and_told h t (reshaped_told p e y r))

-- one key more, and its letter
get_d_front : (xs ys : List ℕ) (i d : ℕ) → i < length xs → get_or (xs ++ ys) i d ≡ get_or xs i d
get_d_front [] ys i d h = absurd (not-suc-le-zero h)
get_d_front (x ∷ xs) ys zero d h = refl
get_d_front (x ∷ xs) ys (suc i) d h = get_d_front xs ys i d (le_of_suc-le-suc h)

module _ (keys : List ℕ) (k : ℕ) where
  abbrev more : List ℕ
  more = keys ++ (k ∷ [])

  told_more : {x : Letter} {b s : ℕ} → Told keys x b s → Told more x b s
  told_more {x} {b} t = record { own = ap letter_of_key (get_d_front keys (k ∷ []) b 0 t.below) ∙ t.own; below = simp length-append (omega (arith, t.below)); mark = t.mark }

  all_more : {n : ℕ} {w : Letters} {bs ss : List ℕ} → AllTold keys n w bs ss → AllTold more n w bs ss
  all_more none_told = none_told
  all_more (and_told h t r) = and_told h (told_more t) (all_more r)

  letter_told : {n : ℕ} {w : Letters} {bs ss : List ℕ} → n ≤ length keys → AllTold keys n w bs ss → AllTold more n (w ++ (letter_of_key k ∷ [])) (bs ++ (length keys ∷ [])) (ss ++ (no_key ∷ []))
  letter_told h none_told = and_told h (record { own = ap letter_of_key (get_or-append_seam keys k [] 0); below = simp length-append (omega arith); mark = refl }) none_told
  letter_told h (and_told i t r) = and_told i (told_more t) (letter_told t.below r)

-- an undo of a shape leaves the place of the tone's key
pub shape_not_tone : {sh : ℕ} {g : Touched} {v w : Letters} (p : ℕ) → Reshaped sh g v w → toned_by_undo p g ≡ p
shape_not_tone p one = refl
shape_not_tone p two = refl
shape_not_tone p (later {g = g} y) = go g (shape_not_tone p y)
  where
    go : (g : Touched) → toned_by_undo p g ≡ p → toned_by_undo p (one_further g) ≡ p
    go NoLetter e = e
    go (OneLetter i) e = refl
    go (TwoLetters i) e = refl

-- a typed word
record Kept (z : Typed) : Type 0 where
  letters : AllTold z.keys 0 z.state.letters z.places.appended_by z.places.shaped_by
  tone : eqb z.places.toned_by no_key ≡ eqb z.state.tone no_tone

none_yet_law : (n : ℕ) → n ≤ most_keys → eqb n no_key ≡ false
none_yet_law n h = is_false (eqb n no_key) (not_T (eqb n no_key) (λ t. omega (arith, eqb→eq n no_key t)))

kept_key : (z : Typed) (k : ℕ) (d : Done) → length z.keys ≤ most_keys → Leaves z.state (letter_of_key k) d → Kept z → Kept (counted z k d)
kept_key z k d few (sets_tone t m n) h = record { letters = all_more z.keys k h.letters; tone = none_yet_law (length z.keys) few ∙ sym (is_false (eqb t no_tone) m) }
kept_key z k d few (clears_tone n) h = record { letters = all_more z.keys k h.letters; tone = refl }
kept_key z k d few (puts_on (puts_shape {sh = sh} n y)) h =
    record { letters = all_more z.keys k (reshaped_told (length z.keys) (none_yet_law (length z.keys) few ∙ sym (is_false (eqb sh plain) n)) y h.letters); tone = h.tone }
kept_key z k d few (puts_on (puts_stroke y)) h = record { letters = all_more z.keys k (reshaped_told (length z.keys) (none_yet_law (length z.keys) few) y h.letters); tone = h.tone }
kept_key z k d few (tone_off n) h = record { letters = letter_told z.keys k (omega arith) h.letters; tone = refl }
kept_key z k d few (shape_off y) h =
    record {
      letters = letter_told z.keys k (omega arith) (reshaped_told no_key refl y h.letters);
      tone = ap (λ (p : ℕ). eqb p no_key) (shape_not_tone z.places.toned_by y) ∙ h.tone;
    }
kept_key z k d few added_plainly h = record { letters = letter_told z.keys k (omega arith) h.letters; tone = h.tone }
kept_key z k d few (added_horning y) h = record { letters = letter_told z.keys k (omega arith) (reshaped_told (length z.keys) (none_yet_law (length z.keys) few) y h.letters); tone = h.tone }

kept_list : (z : Typed) (ks : List ℕ) → length z.keys + length ks ≤ most_keys → Kept z → Kept (type_list z ks)
kept_list z [] few h = h
kept_list z (k ∷ ks) few h = kept_list (type z k) ks (simp length-append (omega arith)) (kept_key z k (key_does z k) (omega arith) (leaves z k) h)

-- read by its places
module _ {keys : List ℕ} where
  told_at : {n : ℕ} {w : Letters} {bs ss : List ℕ} → AllTold keys n w bs ss → (i : ℕ) (x : Letter) → i < length w → Told keys (get_or w i x) (get_or bs i 0) (get_or ss i 0)
  told_at none_told i x h = absurd (not-suc-le-zero h)
  told_at (and_told l t r) zero x h = t
  told_at (and_told l t r) (suc i) x h = told_at r i x (le_of_suc-le-suc h)

  least_at : {n : ℕ} {w : Letters} {bs ss : List ℕ} → AllTold keys n w bs ss → 0 < length w → n ≤ get_or bs 0 0
  least_at none_told h = absurd (not-suc-le-zero h)
  least_at (and_told l t r) h = l

  rising_at : {n : ℕ} {w : Letters} {bs ss : List ℕ} → AllTold keys n w bs ss → (i : ℕ) → suc i < length w → get_or bs i 0 < get_or bs (suc i) 0
  rising_at none_told i h = absurd (not-suc-le-zero h)
  rising_at (and_told l t r) zero h = least_at r (le_of_suc-le-suc h)
  rising_at (and_told l t r) (suc i) h = rising_at r i (le_of_suc-le-suc h)

get_d_map : (f : ℕ → Letter) (xs : List ℕ) (i : ℕ) → get_or (map f xs) i (f 0) ≡ f (get_or xs i 0)
get_d_map f [] i = refl
get_d_map f (x ∷ xs) zero = refl
get_d_map f (x ∷ xs) (suc i) = get_d_map f xs i

told : (w : Word) → Whole w → w.count ≤ most_keys → Kept (word_of w) → PlacesTold w
told w whole few h =
    let n = w.count in
    let long : length (word_of w).state.letters ≡ n = length-map (take n w.letters) letter ∙ length-take-le n w.letters (omega (arith, whole.letters)) in
    let is_letter : (i : ℕ) → i < n → get_or (map letter (take n w.letters)) i (letter 0) ≡ letter (get_or w.letters i 0) = λ i l. get_d_map letter (take n w.letters) i ∙ ap letter (get_or-take n w.letters i 0 l) in
    let by : (i : ℕ) → i < n → get_or (take n w.appended_by) i 0 ≡ get_or w.appended_by i 0 = λ i l. get_or-take n w.appended_by i 0 l in
    let at : (i : ℕ) → i < n → Told (take w.typed w.keys) (get_or (word_of w).state.letters i (letter 0)) (get_or (take n w.appended_by) i 0) (get_or (take n w.shaped_by) i 0) =
    λ i l. told_at h.letters i (letter 0) (subst (λ (m : ℕ). i < m) (sym long) l) in
    let within : (i : ℕ) → i < n → get_or w.appended_by i 0 < w.typed = λ i l.
    let short : length (take w.typed w.keys) ≤ w.typed = taken_short w.typed w.keys in
    omega (arith, (at i l).below, by i l) in
    record {
      own_key = λ i l.
          ap letter_of_key (sym (get_or-take w.typed w.keys (get_or w.appended_by i 0) 0 (within i l)) ∙ ap (λ (b : ℕ). get_or (take w.typed w.keys) b 0) (sym (by i l))) ∙ (at i l).own ∙
          ap (shaped plain) (is_letter i l);
      rising = λ i l.
          let r = rising_at h.letters i (subst (λ (m : ℕ). suc i < m) (sym long) l) in
          omega (arith, r, by i (omega arith), by (suc i) l);
      shaped_marked = λ i l. ap (λ (p : ℕ). eqb p no_key) (sym (get_or-take n w.shaped_by i 0 l)) ∙ (at i l).mark ∙ ap (λ (x : Letter). eqb x.shape plain) (is_letter i l);
      tone_marked = h.tone;
    }
  where
    taken_short : (n : ℕ) (l : List ℕ) → length (take n l) ≤ n
    taken_short zero l = omega arith
    taken_short (suc n) [] = omega arith
    taken_short (suc n) (x ∷ l) = omega (arith, taken_short n l)

pub typed_told : (m : ℕ) (ks : List ℕ) → (type_all m ks).answer ≡ (Ok tt) → PlacesTold (type_all m ks).word
typed_told m ks a =
    let h = typed_held m ks a in
    let kept = kept_list (word_of (new_word m)) ks (omega (arith, few_keys m ks a)) (record { letters = none_told; tone = refl }) in
    subst PlacesTold (sym (typed_as m ks a))
    (told (holding (new_word m) (typed m ks)) h.whole (in_range (holding (new_word m) (typed m ks)) h.range).count (subst Kept (sym (word_held (new_word m) (typed m ks) h.fine.letters h.abreast)) kept))
