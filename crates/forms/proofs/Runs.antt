-- Keys of different families that would each act alone act in any order, with one result: the first half of demand 3 for any number of keys.
use mathlib.Core.Path.{◌≡◌, refl, sym, ap, subst, ◌∙◌}
use mathlib.Core.Bool.{Bool, false}
use mathlib.Core.List.{List, [], ◌∷◌, map}
use Prim.Native.Nat.{ℕ}
use Rattle.rules.specs.Letters.{named}
use Rattle.rules.specs.TheWord.{State, state_of}
use Rattle.rules.specs.KeyRoles.{role, letter_of_key, unless_closed}
use Rattle.rules.specs.declared.Role.{Role}
use Rattle.rules.specs.declared.Touched.{Touched}
use Rattle.rules.specs.declared.Act.{Act}
use Rattle.rules.proofs.Commute.{Acts, Differ, swapped, acted_if, stays_open, commute}
use Rattle.rules.specs.Syllables.{Picks, this_one, a_later_one, Order, all_taken, first_this}
use Rattle.forms.proofs.Presses.{pressing}
use Rattle.forms.proofs.Capitals.{Left, left}

pub data Each (P : Role → Type 0) : List Role → Type 0 where
  none : Each P []
  also : {r : Role} {rs : List Role} → P r → Each P rs → Each P (r ∷ rs)

-- no two are of one family
pub data Apart : List Role → Type 0 where
  no_more : Apart []
  and_from : {r : Role} {rs : List Role} → Each (Differ r) rs → Apart rs → Apart (r ∷ rs)

-- a key of this role would act
pub data Can (s : State) (r : Role) : Type 0 where
  can : {a : Act} {g : Touched} {t : State} → Acts r s a g t → Can s r

-- keys of these roles act, one after the other
pub data Runs : State → List Role → State → Type 0 where
  stop : {s : State} → Runs s [] s
  then : {r : Role} {rs : List Role} {s t u : State} {a : Act} {g : Touched} → Acts r s a g t → Runs t rs u → Runs s (r ∷ rs) u

runs_from : {rs : List Role} {s t u : State} → s ≡ t → Runs s rs u → Runs t rs u
runs_from {rs} {u = u} e r = subst (λ (s : State). Runs s rs u) e r

pub runs_pressing : (mode : ℕ) (ks : List ℕ) {s t : State} → s.closed ≡ false → Runs s (map (role mode) ks) t → pressing mode s ks ≡ t
runs_pressing mode [] o stop = refl
runs_pressing mode (k ∷ ks) {s} {t} o (then {t = v} g r) =
    ap (λ (z : State). pressing mode z ks) (ap (λ (c : Bool). state_of (unless_closed c (role mode k) s (letter_of_key k))) o ∙ ap state_of (acted_if (letter_of_key k) g)) ∙
    runs_pressing mode ks (stays_open g ∙ o) r

pub runs_left : {rs : List Role} {s t : State} → Runs s rs t → Left s.letters t.letters
runs_left stop = record { caps = refl; ends = refl; still = λ h. h }
runs_left (then g r) =
    let a = left g in
    let b = runs_left r in
    record { caps = a.caps ∙ b.caps; ends = a.ends ∙ b.ends; still = λ h. b.still (a.still h) }

-- a key acts in one way only
unique : {r : Role} {s t u : State} {a b : Act} {g h : Touched} → Acts r s a g t → Acts r s b h u → t ≡ u
unique g h = ap state_of (sym (acted_if (named 0) g) ∙ acted_if (named 0) h)

record Picked (P : Role → Type 0) (r : Role) (qs : List Role) : Type 0 where
  one : P r
  others : Each P qs

picked : {P : Role → Type 0} {r : Role} {rs qs : List Role} → Picks r rs qs → Each P rs → Picked P r qs
picked this_one (also p e) = record { one = p; others = e }
picked (a_later_one x) (also p e) = let q = picked x e in record { one = q.one; others = also p q.others }

record PickedApart (r : Role) (qs : List Role) : Type 0 where
  differs : Each (Differ r) qs
  apart : Apart qs

picked_apart : {r : Role} {rs qs : List Role} → Picks r rs qs → Apart rs → PickedApart r qs
picked_apart this_one (and_from d x) = record { differs = d; apart = x }
picked_apart (a_later_one p) (and_from d x) =
    let e = picked_apart p x in
    let f = picked p d in
    record { differs = also (swapped f.one) e.differs; apart = and_from f.others e.apart }

-- what would act still would after a key of another family
after_other : {r q : Role} {s t : State} {a : Act} {g : Touched} → Acts r s a g t → Differ r q → Can s q → Can t q
after_other g d (can h) = can (commute d g h).second

after : {r : Role} {rs : List Role} {s t : State} {a : Act} {g : Touched} → Acts r s a g t → Each (Differ r) rs → Each (Can s) rs → Each (Can t) rs
after g none none = none
after g (also d e) (also c f) = also (after_other g d c) (after g e f)

-- the one that is picked goes first, the rest follow, with the same result
record First (r : Role) (s : State) (qs : List Role) (u : State) : Type 0 where
  act : Act
  touches : Touched
  to : State
  acts : Acts r s act touches to
  rest : Runs to qs u

sooner : {r q : Role} {qs : List Role} {s t u : State} {a : Act} {g : Touched} → Acts q s a g t → Differ q r → Can s r → First r t qs u → First r s (q ∷ qs) u
sooner g d (can h) f =
    let c = commute d g h in
    record { act = _; touches = _; to = _; acts = h; rest = then c.first (runs_from (unique f.acts c.second) f.rest) }

first : {r : Role} {rs qs : List Role} {s u : State} → Picks r rs qs → Apart rs → Each (Can s) rs → Runs s rs u → First r s qs u
first this_one x c (then g r) = record { act = _; touches = _; to = _; acts = g; rest = r }
first (a_later_one p) (and_from d x) (also c e) (then g r) = sooner g (picked p d).one (picked p e).one (first p x (after g d e) r)

pub any_order : {rs zs : List Role} {s u : State} → Order rs zs → Apart rs → Each (Can s) rs → Runs s rs u → Runs s zs u
any_order all_taken x c r = r
any_order (first_this p o) x c r =
    let f = first p x c r in
    let y = picked_apart p x in
    then f.acts (any_order o y.apart (after f.acts y.differs (picked p c).others) f.rest)
