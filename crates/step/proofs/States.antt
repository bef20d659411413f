-- What the functions leave in the array and beside it is the state that the rule says.
use mathlib.Core.Path.{◌≡◌, refl, sym, ap, subst, ◌∙◌}
use mathlib.Core.Bool.{Bool, true}
use mathlib.Core.Logic.{◌⊎◌, inl, inr}
use mathlib.Core.List.{List, [], ◌∷◌, ◌++◌, map}
use Prim.Native.Nat.{ℕ, ◌+◌, ◌≤◌}
use native.Mathlib.Omega.{arith}
use lib.ListN.{length, take, drop, set, length-append, length-drop, length-map, take-append-drop}
use lib.Seq.{length-take-le}
use borrow.Enum.Refused.{Among, opened}
use denote.Enum.Declared.{tag_of}
use Rattle.rules.specs.Letters.{Letter, Letters}
use Rattle.rules.specs.TheWord.{State, Done, acted, undone, appended, state_of, letter, number, at_front}
use Rattle.rules.specs.KeyRoles as Rules
use Rattle.rules.specs.KeyRoles.{close, edit_does, nothing, off, change}
use Rattle.rules.specs.declared.Act.{Act}
use Rattle.rules.specs.declared.Touched.{Touched}
use Rattle.rules.specs.declared.Touched.TheVariants.{NoLetter, OneLetter, TwoLetters}
use Rattle.rules.specs.declared.Outcome.{Outcome}
use Rattle.rules.specs.declared.Outcome.TheVariants.{Acted, Undone, Appended}
use Rattle.rules.proofs.Edits.{Alike, Good, good_none, good_off, good, length_alike}
use Rattle.rules.specs.LettersOfAMode.{AllFine}
use Rattle.rules.proofs.Numbers.{fine_alike}
use Rattle.rules.proofs.Records.{front_front}
use Rattle.rules.specs.contracts.Outcome as Outcomes
use Rattle.rules.specs.contracts.Touched as Touches
use Rattle.step.specs.declared.Edit.{Edit}
use Rattle.step.specs.declared.Edit.TheVariants.{Nothing, Off, Change}
use Rattle.step.specs.declared.Rest.{Rest}
use Rattle.step.specs.declared.Counts.{Counts}
use Rattle.step.specs.declared.Done as Answer
use Rattle.step.specs.LentLetters.{LettersInFront, RoomForLetter, LeavesState, DoesAsRuled, Edits, kind_of, edited_in, state_in, appended_plainly, after_edit, rest_with_tone, counted_in, shaper_of, by_then}
use Rattle.step.specs.contracts.Edit as Kinds
use Rattle.step.proofs.Arrays.{within, added, front_letters, front_canonical}

-- the same letters, written again
module _ (l : List ℕ) (rest : Rest) (given : LettersInFront l rest.count) where
  pub letters_read : length (map letter (take rest.count l)) ≡ rest.count
  letters_read = length-map (take rest.count l) letter ∙ length-take-le rest.count l (within l rest.count given)

  pub same_array : at_front (map number (map letter (take rest.count l))) l ≡ l
  same_array =
      ap (λ (m : List ℕ). at_front m l) given.canonical ∙ ap (λ (k : ℕ). take rest.count l ++ drop k l) (length-take-le rest.count l (within l rest.count given)) ∙
      take-append-drop rest.count l

  pub same : LeavesState (state_in l rest) l rest l
  same = record { beside = λ i. record { count = sym letters_read i; tone = rest.tone; closed = rest.closed }; left = sym same_array }

  pub tones : (t : ℕ) {r : Rest} → r ≡ rest_with_tone rest t → LeavesState (Rules.with_tone (state_in l rest) t) l r l
  tones t e = record { beside = e ∙ ap (λ (x : Rest). rest_with_tone x t) same.beside; left = same.left }

-- a letter more
module _ (l : List ℕ) (rest : Rest) (room : RoomForLetter l rest.count) where
  pub appends : (x : Letter) (v : ℕ) → v ≡ number x →
      LeavesState (appended_plainly (state_in l rest) x) l (record { count = rest.count + 1; tone = rest.tone; closed = rest.closed }) (set l rest.count v)
  appends x v e =
      let n : rest.count + 1 ≡ length ((state_in l rest).letters ++ (x ∷ [])) = simp length-append (omega (arith, letters_read l rest room.given)) in
      record {
        beside = λ i. record { count = n i; tone = rest.tone; closed = rest.closed };
        left =
            ap (set l rest.count) e ∙
            added l rest.count room.given x (omega (arith, room.given.whole, room.room));
      }

-- what is left, with its outcome
pub as_acted : (a : Act) (g : Touched) {s : State} {l : List ℕ} {r : Rest} {m : List ℕ} → LeavesState s l r m → DoesAsRuled (acted a g s) l (record { outcome = Acted a; touched = g; rest = r }) m
as_acted a g p = record { told = ap (λ (x : Rest). record { outcome = Acted a; touched = g; rest = x }) p.beside; left = p.left }

pub as_appended : (g : Touched) {s : State} {l : List ℕ} {r : Rest} {m : List ℕ} → LeavesState s l r m → DoesAsRuled (appended g s) l (record { outcome = Appended; touched = g; rest = r }) m
as_appended g p = record { told = ap (λ (x : Rest). record { outcome = Appended; touched = g; rest = x }) p.beside; left = p.left }

abbrev closed : Rest → Rest
closed r = record { count = r.count; tone = r.tone; closed = true }

pub as_undone : (g : Touched) {s : State} {l : List ℕ} {r : Rest} {m : List ℕ} → LeavesState s l r m → DoesAsRuled (undone g (close s)) l (record { outcome = Undone; touched = g; rest = closed r }) m
as_undone g p = record { told = ap (λ (x : Rest). record { outcome = Undone; touched = g; rest = closed x }) p.beside; left = p.left }

pub as_ruled : {d e : Done} {l : List ℕ} {r : Answer.Done} {m : List ℕ} → d ≡ e → DoesAsRuled e l r m → DoesAsRuled d l r m
as_ruled {d} {e} {l} {r} {m} p q = subst (λ (x : Done). DoesAsRuled x l r m) (sym p) q

-- the array after an edit of the letters in its front
abbrev front_edited : List ℕ → Rules.Edit → List ℕ
front_edited l nothing = l
front_edited l (off g w) = at_front (map number w) l
front_edited l (change a g w) = at_front (map number w) l

pub record FrontEdits (d : Rules.Edit) (l : List ℕ) (e : Edit) (m : List ℕ) : Type 0 where
  pub told : e ≡ kind_of d
  pub left : m ≡ front_edited l d

-- the letters after an edit, and what the key then does
module _ (mode : ℕ) (l : List ℕ) (rest : Rest) (room : RoomForLetter l rest.count) (fine : AllFine mode (state_in l rest).letters) where
  module _ (ws : Letters) {changed : ℕ → Bool} (a : Alike changed (state_in l rest).letters ws) where
    as_many : length ws ≡ rest.count
    as_many = sym (length_alike a) ∙ letters_read l rest room.given

    room_for : RoomForLetter (at_front (map number ws) l) rest.count
    room_for =
        record {
          given =
              record {
                whole = simp (length-append, length-map, length-drop) (omega (arith, as_many, room.given.whole, room.room));
                fits = room.given.fits;
                canonical = front_canonical l rest.count ws (fine_alike a fine) as_many;
              };
          room = room.room;
        }

    state_then : state_in (at_front (map number ws) l) rest ≡ Rules.with_letters (state_in l rest) ws
    state_then = ap (Rules.with_letters (state_in l rest)) (front_letters l rest.count ws (fine_alike a fine) as_many)

    over : (f : State → Done) {r : Answer.Done} {m : List ℕ} → length ws ≤ length (state_of (f (Rules.with_letters (state_in l rest) ws))).letters →
        DoesAsRuled (f (state_in (at_front (map number ws) l) rest)) (at_front (map number ws) l) r m → DoesAsRuled (f (Rules.with_letters (state_in l rest) ws)) l r m
    over f {r} {m} h p =
        let q = subst (λ (s : State). DoesAsRuled (f s) (at_front (map number ws) l) r m) state_then p in
        record { told = q.told; left = q.left ∙ front_front (map number (state_of (f (Rules.with_letters (state_in l rest) ws))).letters) (map number ws) l (simp length-map h) }

  -- the front was lent
  pub in_front : {d : Rules.Edit} {e : Edit} {m : List ℕ} → Good (state_in l rest).letters d → Edits d (take rest.count l) e m → FrontEdits d l e (m ++ drop rest.count l)
  in_front g p = record { told = p.told; left = ap (λ (x : List ℕ). x ++ drop rest.count l) p.left ∙ go g }
    where
      go : {d : Rules.Edit} → Good (state_in l rest).letters d → edited_in (take rest.count l) d ++ drop rest.count l ≡ front_edited l d
      go good_none = take-append-drop rest.count l
      go (good_off c {w = ws} a y) = ap (λ (k : ℕ). map number ws ++ drop k l) (sym (length-map ws number ∙ as_many ws a))
      go (good c {w = ws} a y q h) = ap (λ (k : ℕ). map number ws ++ drop k l) (sym (length-map ws number ∙ as_many ws a))

  pub room_after : {d : Rules.Edit} {e : Edit} {m : List ℕ} → Good (state_in l rest).letters d → FrontEdits d l e m → RoomForLetter m rest.count
  room_after g p = subst (λ (k : List ℕ). RoomForLetter k rest.count) (sym p.left) (go g)
    where
      go : {d : Rules.Edit} → Good (state_in l rest).letters d → RoomForLetter (front_edited l d) rest.count
      go good_none = room
      go (good_off c {w = ws} a y) = room_for ws a
      go (good c {w = ws} a y q h) = room_for ws a

  pub edit_then : {d : Rules.Edit} {e : Edit} {m m' : List ℕ} {r : Answer.Done} (k : Letter) → Good (state_in l rest).letters d → FrontEdits d l e m → DoesAsRuled (after_edit e (state_in m rest) k) m r m' → DoesAsRuled (edit_does d (state_in l rest) k) l r m'
  edit_then {d = d'} {m = m} {m' = m'} {r = r} k g p q =
      go g (subst (λ (x : List ℕ). DoesAsRuled (after_edit (kind_of d') (state_in x rest) k) x r m') p.left (subst (λ (x : Edit). DoesAsRuled (after_edit x (state_in m rest) k) m r m') p.told q))
    where
      go : {d : Rules.Edit} → Good (state_in l rest).letters d → DoesAsRuled (after_edit (kind_of d) (state_in (front_edited l d) rest) k) (front_edited l d) r m' → DoesAsRuled (edit_does d (state_in l rest) k) l r m'
      go good_none x = x
      go (good_off c {g = g} {w = ws} a y) x = over ws a (λ s. undone g (Rules.undo s k)) (simp length-append (omega arith)) x
      go (good c {a = act} {g = g} {w = ws} a y q h) x = over ws a (acted act g) (omega arith) x

two_no : {m n k : ℕ} → (m ≡ n → ⊥) → (m ≡ k → ⊥) → (m ≡ n) ⊎ (m ≡ k) → ⊥
two_no f g (inl e) = f e
two_no f g (inr e) = g e

-- an edit that neither takes a mark off nor changes the letters is none
pub no_edit : (e : Edit) → Among (0 ∷ 2 ∷ []) (tag_of Kinds.the_type e) → Among (0 ∷ 1 ∷ []) (tag_of Kinds.the_type e) → e ≡ Nothing
no_edit Nothing p q = refl
no_edit (Off g) p q = absurd (two_no (λ e. omega arith) (λ e. omega arith) (opened p))
no_edit (Change a g) p q = absurd (two_no (λ e. omega arith) (λ e. omega arith) (opened q))

-- a key that touched neither one letter nor two touched none
pub no_letter : (g : Touched) → Among (0 ∷ 2 ∷ []) (tag_of Touches.the_type g) → Among (0 ∷ 1 ∷ []) (tag_of Touches.the_type g) → g ≡ NoLetter
no_letter NoLetter p q = refl
no_letter (OneLetter i) p q = absurd (two_no (λ e. omega arith) (λ e. omega arith) (opened p))
no_letter (TwoLetters i) p q = absurd (two_no (λ e. omega arith) (λ e. omega arith) (opened q))

-- an outcome that is neither acted nor undone is appended
pub neither : (n : Counts) (o : Outcome) → Among (1 ∷ 2 ∷ []) (tag_of Outcomes.the_type o) → Among (0 ∷ 2 ∷ []) (tag_of Outcomes.the_type o) → counted_in n Appended ≡ counted_in n o
neither n (Acted a) p q = absurd (two_no (λ e. omega arith) (λ e. omega arith) (opened p))
neither n Undone p q = absurd (two_no (λ e. omega arith) (λ e. omega arith) (opened q))
neither n Appended p q = refl

-- a key that was neither appended nor undid acted
pub acts : (o : Outcome) (l : List ℕ) (count here : ℕ) → Among (0 ∷ 1 ∷ []) (tag_of Outcomes.the_type o) → Among (0 ∷ 2 ∷ []) (tag_of Outcomes.the_type o) → (here ≡ shaper_of o here) × (l ≡ by_then l count here o)
acts (Acted a) l count here p q = (refl, refl)
acts Undone l count here p q = absurd (two_no (λ e. omega arith) (λ e. omega arith) (opened q))
acts Appended l count here p q = absurd (two_no (λ e. omega arith) (λ e. omega arith) (opened p))

-- and one that did not act appended a letter
pub adds : (o : Outcome) (l : List ℕ) (count here : ℕ) → Among (1 ∷ 2 ∷ []) (tag_of Outcomes.the_type o) → set l count here ≡ by_then l count here o
adds (Acted a) l count here p = absurd (two_no (λ e. omega arith) (λ e. omega arith) (opened p))
adds Undone l count here p = refl
adds Appended l count here p = refl
