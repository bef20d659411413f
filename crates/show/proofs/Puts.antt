-- The bytes of one code point, by how many they are, and written one by one.
use mathlib.Core.Path.{◌≡◌, refl, sym, ap, ap₂, ◌∙◌}
use mathlib.Core.List.{List, [], ◌∷◌}
use Prim.Native.Nat.{ℕ, suc, ◌+◌, ◌/◌, ◌%◌, ◌≤◌, ◌<◌}
use native.Mathlib.Omega.{arith}
use borrow.Author.Tests.{lt-ltb, le-ltb, eq-eqb, ne_eqb}
use lib.ListN.{length, set}
use lib.Seq.{sets}
use Rattle.rules.specs.CodePoints.{utf8}
use Rattle.letters.specs.Writing.{bytes_if}

pub no_bytes : (c : ℕ) → c ≡ 0 → bytes_if c ≡ []
no_bytes c e = rw (bytes_if, eq-eqb c 0 e)

module _ (c : ℕ) (some : c ≡ 0 → ⊥) where
  pub one_byte : c < 0x80 → bytes_if c ≡ c ∷ []
  one_byte h = rw (bytes_if, ne_eqb c 0 some, utf8, lt-ltb c 0x80 h)

  pub two_bytes : 0x80 ≤ c → c < 0x800 → bytes_if c ≡ (0xC0 + c / 64) ∷ (0x80 + c % 64) ∷ []
  two_bytes g h = rw (bytes_if, ne_eqb c 0 some, utf8, le-ltb c 0x80 g, lt-ltb c 0x800 h)

  pub three_bytes : 0x80 ≤ c → 0x800 ≤ c → bytes_if c ≡ (0xE0 + c / 4096) ∷ (0x80 + c / 64 % 64) ∷ (0x80 + c % 64) ∷ []
  three_bytes g h = rw (bytes_if, ne_eqb c 0 some, utf8, le-ltb c 0x80 g, le-ltb c 0x800 h)

module _ (l : List ℕ) (at : ℕ) (bs : List ℕ) where
  -- where the text goes on after these bytes, and the text with them
  pub record Put (n : ℕ) (out : List ℕ) : Type 0 where
    pub next : n ≡ at + length bs
    pub bytes : out ≡ sets l at bs

  put_as : (u : List ℕ) {n : ℕ} {out : List ℕ} → bs ≡ u → n ≡ at + length u → out ≡ sets l at u → Put n out
  put_as u e p q = record { next = p ∙ ap (λ (z : List ℕ). at + length z) (sym e); bytes = q ∙ ap (sets l at) (sym e) }

  pub none_put : bs ≡ [] → Put at l
  none_put e = put_as [] e (omega arith) refl

  pub one_put : (a : ℕ) → bs ≡ a ∷ [] → Put (at + 1) (set l at a)
  one_put a e = put_as (a ∷ []) e refl refl

  pub two_put : (a b : ℕ) → bs ≡ a ∷ b ∷ [] → Put (at + 2) (set (set l at a) (at + 1) b)
  two_put a b e = let i : at + 1 ≡ suc at = omega arith in put_as (a ∷ b ∷ []) e refl (ap (λ (n : ℕ). set (set l at a) n b) i)

  pub three_put : (a b c : ℕ) → bs ≡ a ∷ b ∷ c ∷ [] → Put (at + 3) (set (set (set l at a) (at + 1) b) (at + 2) c)
  three_put a b c e =
      let i : at + 1 ≡ suc at = omega arith in
      let j : at + 2 ≡ suc (suc at) = omega arith in
      put_as (a ∷ b ∷ c ∷ []) e refl (ap₂ (λ (n m : ℕ). set (set (set l at a) n b) m c) i j)
