-- The second horn: when an appended letter puts it on, what then stands in the array, and that keys with a role never do.
use mathlib.Core.Path.{◌≡◌, refl, sym, ap, subst, ◌∙◌}
use mathlib.Core.Bool.{Bool, true, false, not, ◌&&◌}
use mathlib.Core.List.{List, [], ◌∷◌, ◌++◌, map}
use Prim.Native.Nat.{ℕ, ◌-◌, ◌≤◌, ◌<◌}
use native.Mathlib.Omega.{arith}
use lib.Dec.{T, leb, leb→le, lit<}
use lib.Ieee.Fits.{and_r}
use lib.ListN.{take, set, get_or, length-append, length-map}
use Rattle.rules.specs.Letters.{Letter, Letters, plain, horn, characters}
use Rattle.rules.specs.Refusals.{all}
use Rattle.rules.specs.TheWord.{State, appended, letter, number, at_front}
use Rattle.rules.specs.KeyRoles.{is_capital, lower_if, lower, letter_of_key, role_in, telex_roles, vni_roles, role, shaped, awaits_second_horn, asks_second_horn, takes_second_horn, horn_on_u, horn_on_u_if, place_of_u, touched_if, is_added}
use Rattle.rules.specs.declared.Touched.{Touched}
use Rattle.rules.specs.declared.Touched.TheVariants.{NoLetter, OneLetter}
use Rattle.rules.specs.declared.Role.{Role}
use Rattle.rules.specs.declared.Role.TheVariants.{ToneRole, ShapeRole, StrokeRole, NoRole}
use Rattle.rules.proofs.Bools.{and_false}
use Rattle.rules.proofs.Tests.{of_elem}
use Rattle.rules.proofs.Numbers.{of_number}
use Rattle.rules.proofs.StaysInRange.{of_role}
use Rattle.rules.proofs.Records.{front_front}
use Rattle.targets.proofs.Waits.{u_and_o, u_before_o, horn_on_u_law}
use Rattle.step.specs.declared.Rest.{Rest}
use Rattle.step.specs.declared.Done as Answer
use Rattle.step.specs.LentLetters.{LettersInFront, RoomForLetter, NoSecondHorn, DoesAsRuled, state_in, appended_plainly, second_horn_on, with_second_horn, unless_closed_role}
use Rattle.step.proofs.Arrays.{reshaped_at, stored, read_stored, still_given}
use Rattle.step.proofs.States.{letters_read, same_array}

-- the second horn that a letter may put on
pub record SecondHorn (l : List ℕ) (n : ℕ) (w : Letters) : Type 0 where
  pub given : LettersInFront (at_front (map number w) l) n
  pub read : map letter (take n (at_front (map number w) l)) ≡ w

module _ (l : List ℕ) (rest : Rest) (given : LettersInFront l rest.count) where
  abbrev word : Letters
  word = (state_in l rest).letters

  module _ (h : awaits_second_horn word ≡ true) where
    abbrev u : ℕ
    u = rest.count - 2

    pub u_inside : (2 ≤ rest.count) × (u < rest.count)
    u_inside = let two : 2 ≤ rest.count = omega (arith, u_and_o word h, letters_read l rest given) in (two, omega (arith, two))

    u_stands : place_of_u word ≡ u
    u_stands = u_before_o word h u (letters_read l rest given ∙ omega (arith, u_inside.0))

    horn_stored : at_front (map number (horn_on_u word)) l ≡ reshaped_at l u horn
    horn_stored =
        ap (λ (w : Letters). at_front (map number w) l) (horn_on_u_law word h u (letters_read l rest given ∙ omega (arith, u_inside.0))) ∙ sym (stored l rest.count given u horn u_inside.1)

    horn_put : SecondHorn l rest.count (horn_on_u word)
    horn_put =
        record {
          given = subst (λ (m : List ℕ). LettersInFront m rest.count) (sym horn_stored) (still_given l rest.count given u horn u_inside.1 (lit< tt));
          read =
              ap (λ (m : List ℕ). map letter (take rest.count m)) horn_stored ∙ read_stored l rest.count given u horn u_inside.1 (lit< tt) ∙
              sym (horn_on_u_law word h u (letters_read l rest given ∙ omega (arith, u_inside.0)));
        }

  no_horn : SecondHorn l rest.count word
  no_horn =
      let e = sym (same_array l rest given) in
      record { given = subst (λ (m : List ℕ). LettersInFront m rest.count) e given; read = ap (λ (m : List ℕ). map letter (take rest.count m)) (sym e) }

  second_horn : (b : Bool) → (b ≡ true → awaits_second_horn word ≡ true) → SecondHorn l rest.count (horn_on_u_if b word)
  second_horn true h = horn_put (h refl)
  second_horn false h = no_horn

-- whether a letter puts it on, by three questions
module _ (l : List ℕ) (rest : Rest) (k : Letter) where
  abbrev takes : Bool
  takes = takes_second_horn (state_in l rest) k

  by_questions : {a b c : Bool} → rest.closed ≡ a → awaits_second_horn (state_in l rest).letters ≡ b → asks_second_horn k.base ≡ c → takes ≡ (not a && (b && c))
  by_questions p q r j = not (p j) && (q j && r j)

  pub takes_none : awaits_second_horn (state_in l rest).letters ≡ false → takes ≡ false
  takes_none q = by_questions refl q refl ∙ sym (and_false (not rest.closed))

  pub takes_closed : rest.closed ≡ true → takes ≡ false
  takes_closed p = by_questions p refl refl

  pub takes_other : asks_second_horn k.base ≡ false → takes ≡ false
  takes_other r = by_questions refl refl r ∙ ap (λ (b : Bool). not rest.closed && b) (sym (and_false (awaits_second_horn (state_in l rest).letters))) ∙ sym (and_false (not rest.closed))

  pub takes_it : rest.closed ≡ false → awaits_second_horn (state_in l rest).letters ≡ true → asks_second_horn k.base ≡ true → takes ≡ true
  takes_it p q r = by_questions p q r

  waiting : takes ≡ true → awaits_second_horn (state_in l rest).letters ≡ true
  waiting e = go rest.closed (awaits_second_horn (state_in l rest).letters) (asks_second_horn k.base) e
    where
      go : (a b c : Bool) → (not a && (b && c)) ≡ true → b ≡ true
      go false true c e = refl
      go false false c e = e
      go true b c e = let z : ◌≡◌ {A = ℕ} 0 1 = cc in absurd (omega arith)

  -- left as it was, or put on
  module _ (given : LettersInFront l rest.count) where
    pub left_as_it_was : takes ≡ false → (NoLetter ≡ second_horn_on l rest k) × (l ≡ with_second_horn l rest k)
    left_as_it_was e = (
      sym (ap (λ (b : Bool). touched_if b (state_in l rest).letters) e),
      sym (ap (λ (b : Bool). at_front (map number (horn_on_u_if b (state_in l rest).letters)) l) e ∙ same_array l rest given),
    )

    pub put_on : takes ≡ true → (v : ℕ) → v ≡ number (shaped horn (letter (get_or l (rest.count - 2) 0))) → (OneLetter (rest.count - 2) ≡ second_horn_on l rest k) × (set l (rest.count - 2) v ≡ with_second_horn l rest k)
    put_on e v f = (
      ap (λ (i : ℕ). OneLetter i) (sym (u_stands l rest given (waiting e))) ∙ sym (ap (λ (b : Bool). touched_if b (state_in l rest).letters) e),
      ap (set l (rest.count - 2)) f ∙ sym (horn_stored l rest given (waiting e)) ∙ sym (ap (λ (b : Bool). at_front (map number (horn_on_u_if b (state_in l rest).letters)) l) e),
    )

-- the letter of a key, by its number
lower_small : (k : ℕ) → k < 256 → lower k < 256
lower_small k h = go (is_capital k) refl
  where
    go : (b : Bool) → is_capital k ≡ b → lower_if b k < 256
    go true e = let u = leb→le k 90 (and_r (leb 65 k) (leb k 90) (rw e tt)) in omega arith
    go false e = h

pub by_base : (k : ℕ) → k < 256 → {n b : ℕ} {q r : Bool} → n ≡ number (letter_of_key k) → b ≡ (letter n).base → q ≡ asks_second_horn b → q ≡ r → asks_second_horn (letter_of_key k).base ≡ r
by_base k h e f g t =
    ap (λ (x : Letter). asks_second_horn x.base) (sym (of_number (lower k) plain (is_capital k) (lower_small k h) (lit< tt)) ∙ ap letter (sym e)) ∙ ap (λ (b : ℕ). asks_second_horn b) (sym f) ∙ sym g ∙ t

-- another letter puts none on
pub plainly : (s : State) (k : Letter) → asks_second_horn k.base ≡ false → is_added s k ≡ appended NoLetter (appended_plainly s k)
plainly s k r =
    ap (λ (b : Bool). appended (touched_if b s.letters) (record { letters = horn_on_u_if b s.letters ++ (k ∷ []); tone = s.tone; closed = s.closed }))
    (ap (λ (b : Bool). not s.closed && (awaits_second_horn s.letters && b)) r ∙ ap (λ (b : Bool). not s.closed && b) (sym (and_false (awaits_second_horn s.letters))) ∙ sym (and_false (not s.closed)))

-- nor a key that has a role
abbrev is_none : Role → Bool
is_none (ToneRole t) = false
is_none (ShapeRole h) = false
is_none StrokeRole = false
is_none NoRole = true

none_in : (rs : List (ℕ × Role)) → T (all (λ b. is_none (role_in rs b)) (characters "iucmnpt")) → (b : ℕ) → T (asks_second_horn b) → T (is_none (role_in rs b))
none_in rs h b t = of_elem (λ c. is_none (role_in rs c)) b (characters "iucmnpt") h t

no_role : (mode key : ℕ) → T (asks_second_horn (lower key)) → T (is_none (role mode key))
no_role mode key t = of_role is_none mode key (none_in telex_roles tt (lower key) t) (none_in vni_roles tt (lower key) t) tt

in_closed : (b : Bool) (r : Role) → T (is_none r) → T (is_none (unless_closed_role b r))
in_closed true r t = tt
in_closed false r t = t

pub by_its_role : (closed : Bool) (mode key : ℕ) {q r : Role} → q ≡ unless_closed_role closed (role mode key) → q ≡ r → T (not (is_none r)) → NoSecondHorn key
by_its_role closed mode key {q} {r} e g n = go (asks_second_horn (lower key)) (no_role mode key)
  where
    never : T (is_none (role mode key)) → T (is_none r)
    never t = subst (λ (x : Role). T (is_none x)) (sym e ∙ g) (in_closed closed (role mode key) t)

    neither : (b : Bool) → T (not b) → T b → T false
    neither true t u = t
    neither false t u = u

    go : (b : Bool) → (T b → T (is_none (role mode key))) → b ≡ false
    go true h = absurd (neither (is_none r) n (never (h tt)))
    go false h = refl

-- a key without a role, once the horn is put on
module _ (l : List ℕ) (rest : Rest) (k : Letter) (g : Touched) (m : List ℕ) (told : (g ≡ second_horn_on l rest k) × (m ≡ with_second_horn l rest k)) where
  abbrev joined : Letters
  joined = horn_on_u_if (takes_second_horn (state_in l rest) k) (state_in l rest).letters

  after : LettersInFront l rest.count → SecondHorn l rest.count joined
  after given = second_horn l rest given (takes_second_horn (state_in l rest) k) (waiting l rest k)

  pub room_then : RoomForLetter l rest.count → RoomForLetter m rest.count
  room_then room = subst (λ (a : List ℕ). RoomForLetter a rest.count) (sym told.1) (record { given = (after room.given).given; room = room.room })

  pub horn_then : RoomForLetter l rest.count → {r : Answer.Done} {m' : List ℕ} → DoesAsRuled (appended g (appended_plainly (state_in m rest) k)) m r m' → DoesAsRuled (is_added (state_in l rest) k) l r m'
  horn_then room {r} {m'} d =
      let front = at_front (map number joined) l in
      let on = second_horn_on l rest k in
      let q = subst (λ (a : List ℕ). DoesAsRuled (appended on (appended_plainly (state_in a rest) k)) a r m') told.1 (subst (λ (x : Touched). DoesAsRuled (appended x (appended_plainly (state_in m rest) k)) m r m') told.0 d) in
      let s = subst (λ (w : Letters). DoesAsRuled (appended on (record { letters = w ++ (k ∷ []); tone = rest.tone; closed = rest.closed })) front r m') (after room.given).read q in
      record { told = s.told; left = s.left ∙ front_front (map number (joined ++ (k ∷ []))) (map number joined) l (simp (length-map, length-append) (omega arith)) }
