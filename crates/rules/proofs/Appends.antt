-- Appending changes an earlier letter in one case alone, and there only the shape of a u.
use mathlib.Core.Path.{◌≡◌, refl, sym, ap, subst, ◌∙◌}
use mathlib.Core.Bool.{Bool, true, false, not, ◌&&◌}
use mathlib.Core.List.{List, [], ◌∷◌, ◌++◌, append_assoc}
use mathlib.Core.Logic.{inl, inr}
use Prim.Native.Nat.{ℕ, suc}
use Prim.Native.Char.{code}
use lib.Dec.{T, eqb}
use lib.ListN.{length}
use lib.Ieee.Fits.{and_l, and_r}
use Rattle.rules.specs.Letters.{Letter, Letters, plain, horn, no_tone, among, words, one_of, named, is}
use Rattle.rules.specs.TheWord.{State, Typed, Done, state_of, outcome_of, is_appended}
use Rattle.rules.specs.KeyRoles.{letter_of_key, role, shaped, awaits_second_horn, asks_second_horn, takes_second_horn, horn_on_u, horn_on_u_if, place_of_u, append, undo_if, act_if, tone_goes, Edit, nothing, off, change, shape_edit, stroke_edit, edit_does, role_does, unless_closed, key_does}
use Rattle.rules.specs.Appending.{UHorned, OneCase}
use Rattle.rules.specs.declared.Role.{Role}
use Rattle.rules.specs.declared.Role.TheVariants.{ToneRole, ShapeRole, StrokeRole, NoRole}
use Rattle.rules.specs.declared.ToneKey.TheVariants.{SetTone, ClearTone}
use Rattle.rules.specs.declared.Act.{Act}
use Rattle.rules.proofs.Tests.{is_true, is_false}
use Rattle.rules.proofs.Words.{bases, of_words, ended}

-- the u that gets the horn: no other stands before it
abbrev no_u : List ℕ → Bool
no_u [] = true
no_u (b ∷ bs) = not (eqb b (code "u")) && no_u bs

horn_past : (v : Letters) (x y : Letter) → T (no_u (bases v)) → T (eqb x.base (code "u")) → horn_on_u (v ++ (x ∷ y ∷ [])) ≡ v ++ (shaped horn x ∷ y ∷ [])
horn_past [] x y n t = rw (horn_on_u, is_true (eqb x.base (code "u")) t)
horn_past (z ∷ v) x y n t =
    rw (horn_on_u, is_false (eqb z.base (code "u")) (and_l (not (eqb z.base (code "u"))) (no_u (bases v)) n))
    (ap (◌∷◌ z) (horn_past v x y (and_r (not (eqb z.base (code "u"))) (no_u (bases v)) n) t))

u_past : (v : Letters) (x : Letter) (xs : Letters) → T (no_u (bases v)) → T (eqb x.base (code "u")) → place_of_u (v ++ (x ∷ xs)) ≡ length v
u_past [] x xs n t = rw (place_of_u, is_true (eqb x.base (code "u")) t)
u_past (z ∷ v) x xs n t =
    rw (place_of_u, is_false (eqb z.base (code "u")) (and_l (not (eqb z.base (code "u"))) (no_u (bases v)) n))
    (ap suc (u_past v x xs (and_r (not (eqb z.base (code "u"))) (no_u (bases v)) n) t))

-- what awaits it: h, kh or th, u and ơ
pub record Awaits (w : Letters) : Type 0 where
  pub initial : Letters
  pub u : Letter
  pub o : Letter
  pub word : w ≡ initial ++ (u ∷ o ∷ [])
  pub is_initial : T (one_of initial (words "h kh th"))
  pub is_u : T (is u (named (code "u")))
  pub is_o : T (is o (named (code "ơ")))
  pub horned : horn_on_u w ≡ initial ++ (shaped horn u ∷ o ∷ [])
  pub u_place : place_of_u w ≡ length initial

pub awaits : (w : Letters) → T (awaits_second_horn w) → Awaits w
awaits w t =
    let o = ended (named (code "ơ")) (words "hu khu thu") w t in
    let u = ended (named (code "u")) (words "h kh th") o.front o.is_front in
    let e : w ≡ u.front ++ (u.last ∷ o.last ∷ []) = o.word ∙ ap (λ (v : Letters). v ++ (o.last ∷ [])) u.word ∙ append_assoc u.front (u.last ∷ []) (o.last ∷ []) in
    let no_u_law = of_words no_u u.front (words "h kh th") tt u.is_front in
    let is_u = and_l (eqb u.last.base (code "u")) (eqb u.last.shape plain) u.is_last in
    record {
      initial = u.front;
      u = u.last;
      o = o.last;
      word = e;
      is_initial = u.is_front;
      is_u = u.is_last;
      is_o = o.is_last;
      horned = ap horn_on_u e ∙ horn_past u.front u.last o.last no_u_law is_u;
      u_place = ap place_of_u e ∙ u_past u.front u.last (o.last ∷ []) no_u_law is_u;
    }

module _ (s : State) (k : Letter) where
  abbrev left : Bool → State
  left b = record { letters = horn_on_u_if b s.letters ++ (k ∷ []); tone = s.tone; closed = s.closed }

  put_on : T (not s.closed) → T (awaits_second_horn s.letters) → T (among k.base "iucmnpt") → UHorned s k (left true)
  put_on opened waits letter =
      let a = awaits s.letters waits in
      record {
        initial = a.initial;
        u = a.u;
        o = a.o;
        word = a.word;
        is_initial = a.is_initial;
        is_u = a.is_u;
        is_o = a.is_o;
        open_word = is_false s.closed opened;
        letter = letter;
        then =
            ap (λ (w : Letters). record { letters = w ++ (k ∷ []); tone = s.tone; closed = s.closed }) a.horned ∙
            ap (λ (w : Letters). record { letters = w; tone = s.tone; closed = s.closed }) (append_assoc a.initial _ (k ∷ []));
      }

  pub one_case : OneCase s k (append s k)
  one_case = go (takes_second_horn s k) refl
    where
      go : (b : Bool) → takes_second_horn s k ≡ b → OneCase s k (left b)
      go false e = inl (record { no_horn = rw e tt; then = refl })
      go true e =
          let t : T (takes_second_horn s k) = rw e tt in
          let both = and_r (not s.closed) (awaits_second_horn s.letters && asks_second_horn k.base) t in
          inr (put_on (and_l (not s.closed) (awaits_second_horn s.letters && asks_second_horn k.base) t) (and_l (awaits_second_horn s.letters) (asks_second_horn k.base) both) (and_r (awaits_second_horn s.letters) (asks_second_horn k.base) both))

-- a key that is appended leaves what appending leaves
appended_edit : (e : Edit) (s : State) (k : Letter) → T (is_appended (outcome_of (edit_does e s k))) → state_of (edit_does e s k) ≡ append s k
appended_edit nothing s k t = refl
appended_edit (off _ _) s k t = elim t [ ]
appended_edit (change _ _ _) s k t = elim t [ ]

appended_if : (c : Bool) (a : Act) (s : State) (d : Done) → T (is_appended (outcome_of (act_if c a s d))) → state_of (act_if c a s d) ≡ state_of d
appended_if false a s d t = refl
appended_if true a s d t = elim t [ ]

appended_unless : (c : Bool) (u : State) (d : Done) (p : State) → (T (is_appended (outcome_of d)) → state_of d ≡ p) → T (is_appended (outcome_of (undo_if c u d))) → state_of (undo_if c u d) ≡ p
appended_unless false u d p h t = h t
appended_unless true u d p h t = elim t [ ]

pub leaves_appended : (r : Role) (s : State) (k : Letter) → T (is_appended (outcome_of (role_does r s k))) → state_of (role_does r s k) ≡ append s k
leaves_appended (ToneRole (SetTone t)) s k h = appended_unless (eqb s.tone t) _ _ _ (appended_if (tone_goes t s.letters) _ _ _) h
leaves_appended (ToneRole ClearTone) s k h = appended_if (not (eqb s.tone no_tone)) _ _ _ h
leaves_appended (ShapeRole e) s k h = appended_edit (shape_edit e s.letters) s k h
leaves_appended StrokeRole s k h = appended_edit (stroke_edit s.letters) s k h
leaves_appended NoRole s k h = refl

appended_closed : (c : Bool) (r : Role) (s : State) (k : Letter) → T (is_appended (outcome_of (unless_closed c r s k))) → state_of (unless_closed c r s k) ≡ append s k
appended_closed true r s k h = refl
appended_closed false r s k h = leaves_appended r s k h

pub appended_key : (z : Typed) (k : ℕ) → T (is_appended (outcome_of (key_does z k))) → OneCase z.state (letter_of_key k) (state_of (key_does z k))
appended_key z k h =
    subst (OneCase z.state (letter_of_key k)) (sym (appended_closed z.state.closed (role z.mode k) z.state (letter_of_key k) h)) (one_case z.state (letter_of_key k))
