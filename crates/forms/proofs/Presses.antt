-- Typing keys as a change of letters, tone and mark alone; and the letter that a letter's key appends, in either case.
use mathlib.Core.Path.{◌≡◌, refl, sym, ap, subst, ◌∙◌}
use mathlib.Core.Bool.{Bool, true, false, ◌&&◌, ◌||◌}
use mathlib.Core.List.{List, [], ◌∷◌, ◌++◌}
use Prim.Native.Nat.{ℕ, ◌-◌}
use Prim.Native.Char.{code}
use native.Mathlib.Omega.{arith}
use lib.Dec.{T, eqb, leb, leb→le, le→leb, not_T}
use lib.Ieee.Fits.{and_i, and_l, and_r}
use Rattle.rules.specs.Letters.{Letter, plain, vni}
use Rattle.rules.specs.TheWord.{State, Typed, state_of}
use Rattle.rules.specs.KeyRoles.{is_key, is_small, is_digit, is_capital, lower_if, letter_of_key, role, unless_closed, shaped, type, type_list}
use Rattle.rules.specs.Speller.{key_in_case, key_of_letter}
use Rattle.rules.proofs.Tests.{or_l, or_r}
use Rattle.rules.proofs.Tests.{is_true, is_false}

abbrev pub press : ℕ → State → ℕ → State
press mode s k = state_of (unless_closed s.closed (role mode k) s (letter_of_key k))

abbrev pub pressing : ℕ → State → List ℕ → State
pressing mode s [] = s
pressing mode s (k ∷ ks) = pressing mode (press mode s k) ks

pub typed_state : (z : Typed) (ks : List ℕ) → (type_list z ks).state ≡ pressing z.mode z.state ks
typed_state z [] = refl
typed_state z (k ∷ ks) = typed_state (type z k) ks

pub pressing_append : (mode : ℕ) (s : State) (ks js : List ℕ) → pressing mode s (ks ++ js) ≡ pressing mode (pressing mode s ks) js
pressing_append mode s [] js = refl
pressing_append mode s (k ∷ ks) js = pressing_append mode (press mode s k) ks js

-- the key of a small letter in either case: it is a capital's key or not, it appends the plain letter in its case, and it is allowed
record InCase (c : Bool) (b : ℕ) : Type 0 where
  capital : is_capital (key_in_case c b) ≡ c
  base : lower_if c (key_in_case c b) ≡ b

in_case_law : (c : Bool) (b : ℕ) → T (is_small b) → InCase c b
in_case_law true b t =
    let l = leb→le (code "a") b (and_l (leb (code "a") b) (leb b (code "z")) t) in
    let h = leb→le b (code "z") (and_r (leb (code "a") b) (leb b (code "z")) t) in
    record {
      capital = is_true (is_capital (b - 32)) (and_i (leb (code "A") (b - 32)) (leb (b - 32) (code "Z")) (le→leb (code "A") (b - 32) (omega arith)) (le→leb (b - 32) (code "Z") (omega arith)));
      base = omega arith;
    }
in_case_law false b t =
    let l = leb→le (code "a") b (and_l (leb (code "a") b) (leb b (code "z")) t) in
    record { capital = is_false (is_capital b) (not_T (is_capital b) (λ t. omega (arith, leb→le b (code "Z") (and_r (leb (code "A") b) (leb b (code "Z")) t)))); base = refl }

pub letter_of_key_law : (x : Letter) → T (is_small x.base) → letter_of_key (key_of_letter x) ≡ shaped plain x
letter_of_key_law x t =
    let k = key_of_letter x in
    let i = in_case_law x.capital x.base t in
    let b : lower_if (is_capital k) k ≡ x.base = ap (λ (c : Bool). lower_if c k) i.capital ∙ i.base in
    λ j. record { base = b j; shape = plain; capital = i.capital j }

pub letter_allowed : (mode : ℕ) (x : Letter) → T (is_small x.base) → T (is_key mode (key_of_letter x))
letter_allowed mode x t = go x.capital (in_case_law x.capital x.base t).capital
  where
    go : (c : Bool) → is_capital (key_in_case c x.base) ≡ c → T (is_key mode (key_in_case c x.base))
    go true e = or_r (is_small (x.base - 32)) (is_capital (x.base - 32) || (eqb mode vni && is_digit (x.base - 32))) (or_l (is_capital (x.base - 32)) (eqb mode vni && is_digit (x.base - 32)) (subst T (sym e) tt))
    go false e = or_l (is_small x.base) (is_capital x.base || (eqb mode vni && is_digit x.base)) t
