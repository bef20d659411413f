-- What a key in either case is for, as the arms of the matches over roles need it: an arm of a small letter and its capital, and the keys of no arm.
use mathlib.Core.Path.{◌≡◌, refl}
use mathlib.Core.Bool.{Bool, true, false, ◌&&◌}
use mathlib.Core.Logic.{◌⊎◌, inl, inr}
use mathlib.Core.List.{List, [], ◌∷◌}
use Prim.Native.Nat.{ℕ, ◌-◌, ◌<◌}
use Prim.Native.Char.{code}
use native.Mathlib.Omega.{arith}
use lib.Dec.{T, leb, ltb, ltb→lt}
use lib.Ieee.Fits.{and_l, and_r}
use borrow.Author.Tests.{ne_eqb, leb-true}
use Rattle.rules.specs.Letters.{telex, vni}
use Rattle.rules.specs.KeyRoles.{is_capital, lower_if, lower, role_in, role}
use Rattle.rules.specs.declared.Role.{Role}
use Rattle.rules.specs.declared.Role.TheVariants.{NoRole}
use Rattle.keys.proofs.Bools.{first}
use Rattle.rules.proofs.Arms.{NoneIn, NoneOf}

-- the keys of a table of roles
abbrev pub keys : List (ℕ × Role) → List ℕ
keys [] = []
keys (x ∷ xs) = x.0 ∷ keys xs

no_role : (b : ℕ) (xs : List (ℕ × Role)) → NoneOf b (keys xs) → NoRole ≡ role_in xs b
no_role b [] h = refl
no_role b (x ∷ xs) h = rw (role_in, ne_eqb b x.0 h.0) (no_role b xs h.1)

-- a key that is a letter of the table, as a capital or small
abbrev pub InEither : ℕ → ℕ → Type 0
InEither k x = (k ≡ x - 32) ⊎ (k ≡ x)

pub in_either : {r : Role} {k c x : ℕ} (xs : List (ℕ × Role)) → (k ≡ c) ⊎ (k ≡ x) → r ≡ role_in xs (lower c) → r ≡ role_in xs (lower x) → r ≡ role_in xs (lower k)
in_either xs (inl e) p q = rw e p
in_either xs (inr e) p q = rw e q

module _ (k : ℕ) where
  other : (x : ℕ) → (InEither k x → ⊥) → lower k ≡ x → ⊥
  other x none e = go (is_capital k) e
    where
      go : (b : Bool) → lower_if b k ≡ x → ⊥
      go true d = none (inl (omega arith))
      go false d = none (inr d)

  others : (xs : List ℕ) → NoneIn (InEither k) xs → NoneOf (lower k) xs
  others [] h = tt
  others (x ∷ xs) h = (other x h.0, others xs h.1)

  pub in_neither : (xs : List (ℕ × Role)) → NoneIn (InEither k) (keys xs) → NoRole ≡ role_in xs (lower k)
  in_neither xs h = no_role (lower k) xs (others (keys xs) h)

  -- a key that no capital acts as
  abbrev caseless : List ℕ → Bool
  caseless [] = true
  caseless (x ∷ xs) = ltb x (code "a") && caseless xs

  no_digit : (x : ℕ) → x < code "a" → (k ≡ x → ⊥) → lower k ≡ x → ⊥
  no_digit x l none e = go (is_capital k) refl e
    where
      go : (b : Bool) → is_capital k ≡ b → lower_if b k ≡ x → ⊥
      go true c d = omega (arith, leb-true (code "A") k (first (leb (code "A") k) (leb k (code "Z")) c))
      go false c d = none d

  no_digits : (xs : List ℕ) → T (caseless xs) → NoneOf k xs → NoneOf (lower k) xs
  no_digits [] t h = tt
  no_digits (x ∷ xs) t h = (no_digit x (ltb→lt x (code "a") (search and_l)) h.0, no_digits xs (and_r (ltb x (code "a")) (caseless xs) t) h.1)

  pub in_none : (xs : List (ℕ × Role)) → T (caseless (keys xs)) → NoneOf k (keys xs) → NoRole ≡ role_in xs (lower k)
  in_none xs t h = no_role (lower k) xs (no_digits (keys xs) t h)

pub no_mode : (m k : ℕ) → (m ≡ telex → ⊥) → (m ≡ vni → ⊥) → NoRole ≡ role m k
no_mode m k h g = rw (role, ne_eqb m telex h, ne_eqb m vni g) refl
