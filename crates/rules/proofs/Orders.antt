-- Demand 3, first half, of the words typed: two keys of different families that would each act alone give the same word in both orders; only the kept keys differ, and the places of the two are exchanged.
use mathlib.Core.Path.{◌≡◌, refl, sym, ap, ap₂, ◌∙◌}
use mathlib.Core.Bool.{Bool, true, false, not, ◌&&◌}
use mathlib.Core.List.{List, [], ◌∷◌, ◌++◌, map, append_assoc}
use Prim.Native.Nat.{ℕ, zero, suc, ◌+◌, ◌≤◌}
use Prim.Native.String.{String}
use native.Mathlib.Omega.{arith}
use lib.Dec.{T, eqb, eqb→eq, eqb_refl, ltb→lt, not_T}
use lib.ListN.{length, set, length-append}
use lib.Ieee.Fits.{and_l, and_r}
use Rattle.rules.specs.Letters.{grave, telex, vni, characters, word, same}
use Rattle.rules.specs.TakingApart.{verdict, admitted, some_agrees, fits, fit, joins, initial, nucleus, final, leftovers}
use Rattle.rules.specs.TheWord.{State, Typed, Done, acted, undone, appended, counted, most_keys, no_key, shaped_on, toned_by_act}
use Rattle.rules.specs.KeyRoles.{role, letter_of_key, unless_closed, key_does, type}
use Rattle.rules.specs.Decision.{keeps, decision}
use Rattle.rules.specs.CodePoints.{shown}
use Rattle.rules.specs.Refusals.{all, is_place, is_place_or_none}
use Rattle.rules.specs.WhatComesBack.{typed}
use Rattle.rules.specs.KeyPlaces.{exchanged, with_keys_exchanged}
use Rattle.rules.specs.declared.Touched.{Touched}
use Rattle.rules.specs.declared.Touched.TheVariants.{NoLetter, OneLetter, TwoLetters}
use Rattle.rules.specs.declared.Act.{Act}
use Rattle.rules.specs.declared.Act.TheVariants.{Tone, Shape, Stroke, Clear}
use Rattle.rules.proofs.Tests.{is_true, is_false, either}
use Rattle.rules.proofs.Commute.{Acts, Differ, Apart, OneLeaves, first_leaves, second_leaves, acts, acted_if, commute, stays_open}

abbrev verdict_of : Typed → ℕ
verdict_of z = verdict z.state.letters z.state.tone

-- the places of a word with room for two more keys
pub record PlacesBelow (z : Typed) : Type 0 where
  pub shaped : T (all (is_place_or_none (length z.keys)) z.places.shaped_by)
  pub toned : T (is_place_or_none (length z.keys) z.places.toned_by)
  pub room : length z.keys + 2 ≤ most_keys

-- What both orders agree on: the two words are equal in all but the kept keys and the places of the two keys, which are exchanged, so in letters, tone, mark and counts, and so in text, verdict and decision;
-- the kept keys are the old ones and then the two in the order typed; and each key acts after the other as it does alone.
pub record SameBothWays (z : Typed) (k m : ℕ) (a b : Act) : Type 0 where
  pub equal : type (type z k) m ≡ with_keys_exchanged (length z.keys) (type (type z m) k) (z.keys ++ (k ∷ m ∷ []))
  pub keys : (type (type z m) k).keys ≡ z.keys ++ (m ∷ k ∷ [])
  pub text : shown (type (type z k) m).state ≡ shown (type (type z m) k).state
  pub verdicts : verdict_of (type (type z k) m) ≡ verdict_of (type (type z m) k)
  pub decisions : decision (type (type z k) m) ≡ decision (type (type z m) k)
  pub k_touches : Touched
  pub m_touches : Touched
  pub last : State
  pub second_acts : key_does (type z k) m ≡ acted b m_touches last
  pub first_acts : key_does (type z m) k ≡ acted a k_touches last

-- an open word: the key does what its role does
does_acts : (z : Typed) (k : ℕ) {a : Act} {g : Touched} {t : State} → z.state.closed ≡ false → key_does z k ≡ acted a g t → Acts (role z.mode k) z.state a g t
does_acts z k o h = acts (role z.mode k) z.state (letter_of_key k) (ap (λ (c : Bool). unless_closed c (role z.mode k) z.state (letter_of_key k)) (sym o) ∙ h)

acts_does : (z : Typed) (k : ℕ) {a : Act} {g : Touched} {t : State} → z.state.closed ≡ false → Acts (role z.mode k) z.state a g t → key_does z k ≡ acted a g t
acts_does z k o h = ap (λ (c : Bool). unless_closed c (role z.mode k) z.state (letter_of_key k)) o ∙ acted_if (letter_of_key k) h

-- a key that acts, and one that acts after it
after : (z : Typed) (k m : ℕ) {a b : Act} {g h : Touched} {t v : State} → z.state.closed ≡ false → Acts (role z.mode k) z.state a g t → Acts (role z.mode m) t b h v →
    key_does (type z k) m ≡ acted b h v
after z k m {a} {b} {g} {h} {t} o x y =
    ap (λ (d : Done). key_does (counted z k d) m) (acts_does z k o x) ∙ acts_does (counted z k (acted a g t)) m (stays_open x ∙ o) y

two : (z : Typed) (k m : ℕ) {a b : Act} {g h : Touched} {t v : State} → z.state.closed ≡ false → Acts (role z.mode k) z.state a g t → Acts (role z.mode m) t b h v →
    type (type z k) m ≡ counted (counted z k (acted a g t)) m (acted b h v)
two z k m o x y = ap₂ (λ (d e : Done). counted (counted z k d) m e) (acts_does z k o x) (after z k m o x y)

-- the places of the two keys exchanged; others stay
module _ (n : ℕ) where
  exchanged_first : exchanged n n ≡ suc n
  exchanged_first = rw (exchanged, is_true (eqb n n) (eqb_refl n))

  exchanged_second : exchanged n (suc n) ≡ n
  exchanged_second =
      rw (exchanged, is_false (eqb (suc n) n) (not_T (eqb (suc n) n) (λ t. omega (arith, eqb→eq (suc n) n t))), is_true (eqb (suc n) (suc n)) (eqb_refl (suc n)))

  exchanged_other : (p : ℕ) → (p ≡ n → ⊥) → (p ≡ suc n → ⊥) → exchanged n p ≡ p
  exchanged_other p x y = rw (exchanged, is_false (eqb p n) (not_T (eqb p n) (λ t. x (eqb→eq p n t))), is_false (eqb p (suc n)) (not_T (eqb p (suc n)) (λ t. y (eqb→eq p (suc n) t))))

  exchanged_set : (ps : List ℕ) (i p : ℕ) → map (exchanged n) (set ps i p) ≡ set (map (exchanged n) ps) i (exchanged n p)
  exchanged_set [] i p = refl
  exchanged_set (x ∷ ps) zero p = refl
  exchanged_set (x ∷ ps) (suc i) p = ap (◌∷◌ (exchanged n x)) (exchanged_set ps i p)

  exchanged_on : (p : ℕ) (g : Touched) (ps : List ℕ) → map (exchanged n) (shaped_on p g ps) ≡ shaped_on (exchanged n p) g (map (exchanged n) ps)
  exchanged_on p NoLetter ps = refl
  exchanged_on p (OneLetter i) ps = exchanged_set ps i p
  exchanged_on p (TwoLetters i) ps = exchanged_set (set ps i p) (suc i) p ∙ ap (λ (qs : List ℕ). set qs (suc i) (exchanged n p)) (exchanged_set ps i p)

  module _ (few : n + 2 ≤ most_keys) where
    exchanged_none : exchanged n no_key ≡ no_key
    exchanged_none = exchanged_other no_key (λ e. omega (arith, e)) (λ e. omega (arith, e))

    exchanged_below : (p : ℕ) → T (is_place_or_none n p) → exchanged n p ≡ p
    exchanged_below p =
        either (eqb p no_key) (is_place n p) (λ t. ap (exchanged n) (eqb→eq p no_key t) ∙ exchanged_none ∙ sym (eqb→eq p no_key t))
        (λ t. let h = ltb→lt p n t in exchanged_other p (λ e. omega (arith, e)) (λ e. omega (arith, e)))

    exchanged_all : (ps : List ℕ) → T (all (is_place_or_none n) ps) → map (exchanged n) ps ≡ ps
    exchanged_all [] t = refl
    exchanged_all (p ∷ ps) t =
        ap₂ (λ (x : ℕ) (xs : List ℕ). x ∷ xs) (exchanged_below p (and_l (is_place_or_none n p) (all (is_place_or_none n) ps) t)) (exchanged_all ps (and_r (is_place_or_none n p) (all (is_place_or_none n) ps) t))

    -- the key that set the tone is one of the two, or an older one
    act_exchanged : (p : ℕ) → T (is_place_or_none n p) → (here : ℕ) (a : Act) → exchanged n (toned_by_act here p a) ≡ toned_by_act (exchanged n here) p a
    act_exchanged p t here (Tone x) = refl
    act_exchanged p t here (Shape sh) = exchanged_below p t
    act_exchanged p t here Stroke = exchanged_below p t
    act_exchanged p t here Clear = exchanged_none

    tones_exchanged : {a b : Act} → OneLeaves a b → (p : ℕ) → T (is_place_or_none n p) → toned_by_act (suc n) (toned_by_act n p a) b ≡ exchanged n (toned_by_act (suc n) (toned_by_act n p b) a)
    tones_exchanged {a} {b} (first_leaves f) p t =
        ap (λ (q : ℕ). toned_by_act (suc n) q b) (f n p) ∙ sym (ap (λ (x : ℕ). toned_by_act x p b) exchanged_first) ∙ sym (act_exchanged p t n b) ∙ ap (exchanged n) (sym (f (suc n) (toned_by_act n p b)))
    tones_exchanged {a} {b} (second_leaves f) p t =
        f (suc n) (toned_by_act n p a) ∙ sym (ap (λ (x : ℕ). toned_by_act x p a) exchanged_second) ∙ sym (act_exchanged p t (suc n) a) ∙
        ap (λ (q : ℕ). exchanged n (toned_by_act (suc n) q a)) (sym (f n p))

    shapes_exchanged : (g h : Touched) → Apart g h → (ps : List ℕ) → T (all (is_place_or_none n) ps) → shaped_on (suc n) h (shaped_on n g ps) ≡ map (exchanged n) (shaped_on (suc n) g (shaped_on n h ps))
    unfolding Apart
    shapes_exchanged g h apart ps t =
        sym (apart n (suc n) ps) ∙
        (λ i. shaped_on (sym exchanged_second i) g (shaped_on (sym exchanged_first i) h (sym (exchanged_all ps t) i))) ∙
        ap (shaped_on (exchanged n (suc n)) g) (sym (exchanged_on n h ps)) ∙ sym (exchanged_on (suc n) g (shaped_on n h ps))

pub orders : (z : Typed) (k m : ℕ) {a b : Act} {g h : Touched} {t u : State} → z.state.closed ≡ false → PlacesBelow z → Differ (role z.mode k) (role z.mode m) →
    key_does z k ≡ acted a g t → key_does z m ≡ acted b h u → SameBothWays z k m a b
unfolding keeps
orders z k m {a} {b} {g} {h} {t} {u} o below p x y =
    let n = length z.keys in
    let x' = does_acts z k o x in
    let y' = does_acts z m o y in
    let c = commute p x' y' in
    let e = two z k m o x' c.second in
    let f = two z m k o y' c.first in
    let one_more : (key : ℕ) → length (z.keys ++ (key ∷ [])) ≡ suc n = λ key. length-append z.keys (key ∷ []) ∙ omega arith in
    let km = counted (counted z k (acted a g t)) m (acted b h c.last) in
    let mk = counted (counted z m (acted b h u)) k (acted a g c.last) in
    let shapes : km.places.shaped_by ≡ map (exchanged n) mk.places.shaped_by =
    ap (λ (l : ℕ). shaped_on l h (shaped_on n g z.places.shaped_by)) (one_more k) ∙ shapes_exchanged n below.room g h c.apart z.places.shaped_by below.shaped ∙
    ap (λ (l : ℕ). map (exchanged n) (shaped_on l g (shaped_on n h z.places.shaped_by))) (sym (one_more m)) in
    let tones : km.places.toned_by ≡ exchanged n mk.places.toned_by =
    ap (λ (l : ℕ). toned_by_act l (toned_by_act n z.places.toned_by a) b) (one_more k) ∙ tones_exchanged n below.room c.leaves z.places.toned_by below.toned ∙
    ap (λ (l : ℕ). exchanged n (toned_by_act l (toned_by_act n z.places.toned_by b) a)) (sym (one_more m)) in
    let same : type (type z k) m ≡ with_keys_exchanged n (type (type z m) k) (z.keys ++ (k ∷ m ∷ [])) =
    e ∙
    (λ i. record {
      mode = z.mode;
      state = c.last;
      places = record { appended_by = z.places.appended_by; shaped_by = shapes i; toned_by = tones i };
      keys = append_assoc z.keys (k ∷ []) (m ∷ []) i;
      acted = km.acted;
      undone = km.undone;
      appended = km.appended;
    }) ∙
    ap (λ (v : Typed). with_keys_exchanged n v (z.keys ++ (k ∷ m ∷ []))) (sym f) in
    record {
      equal = same;
      keys = ap (λ (v : Typed). v.keys) f ∙ append_assoc z.keys (m ∷ []) (k ∷ []);
      text = ap (λ (v : Typed). shown v.state) same;
      verdicts = ap verdict_of same;
      decisions = ap decision same;
      k_touches = g;
      m_touches = h;
      last = c.last;
      second_acts = after z k m o x' c.second;
      first_acts = after z m k o y' c.first;
    }

-- It is not idle: after duong, in both modes, each of stroke, horn and tone would act, and the six orders of the three give đường; and with a tone there each of stroke, horn and clear would.
abbrev is_acting : Done → Bool
is_acting (acted a g s) = true
is_acting (undone g s) = false
is_acting (appended g s) = false

abbrev would_act : ℕ → String → List ℕ → Bool
would_act mode ks [] = true
would_act mode ks (k ∷ more) = is_acting (key_does (typed mode (characters ks)) k) && would_act mode ks more

abbrev gives_đường : ℕ → List String → Bool
gives_đường mode [] = true
gives_đường mode (ks ∷ more) =
    let z = typed mode (characters "duong" ++ characters ks) in
    (same z.state.letters (word "đương") && (eqb z.state.tone grave && (eqb z.acted 3 && not z.state.closed))) && gives_đường mode more

not_idle : T (would_act telex "duong" (characters "dwf") && (would_act vni "duong" (characters "972") && (would_act telex "duongf" (characters "dwz") && would_act vni "duong2" (characters "970"))))
unfolding admitted some_agrees fits fit joins initial nucleus final leftovers
not_idle = tt

six_orders : T (gives_đường telex ("dwf" ∷ "dfw" ∷ "wdf" ∷ "wfd" ∷ "fdw" ∷ "fwd" ∷ []) && gives_đường vni ("972" ∷ "927" ∷ "792" ∷ "729" ∷ "297" ∷ "279" ∷ []))
unfolding admitted some_agrees fits fit joins initial nucleus final leftovers
six_orders = tt
