-- qu and gi, on numbers.
use mathlib.Core.Path.{◌≡◌, refl, sym, ap₂, ◌∙◌}
use mathlib.Core.Bool.{Bool, true, false, not, ◌&&◌, ◌||◌, or-false}
use mathlib.Core.List.{List, [], ◌∷◌, map}
use Prim.Native.Nat.{ℕ, ◌+◌, ◌<◌, ◌%◌, ◌/◌}
use native.Mathlib.Omega.{arith}
use lib.Dec.{eqb}
use lib.ListN.{length, get_or}
use borrow.Author.Tests.{eq-eqb, ne_eqb}
use Prim.Native.Char.{code}
use Rattle.rules.specs.Letters.{Letters, named, word, is, same, is_nil}
use Rattle.rules.specs.TakingApart.{joins, plain_u, i_and_another}
use Rattle.rules.specs.TheWord.{letter}
use Rattle.rules.proofs.Bools.{eqb_case, only, never, and_false}

pub not_one : (ns ms : List ℕ) → (length ns ≡ 1 → ⊥) → false ≡ joins (map letter ns) (map letter ms)
unfolding joins
not_one [] ms f = refl
not_one (n ∷ []) ms f = absurd (f refl)
not_one (n ∷ k ∷ ks) ms f = λ j. (never (is (letter n) (named (code "q"))) j && plain_u (map letter ms)) || (never (is (letter n) (named (code "g"))) j && i_and_another (map letter ms))

pub joins_none : (w : Letters) → false ≡ joins w []
unfolding joins
joins_none w j = and_false (same w (word "q")) j || and_false (same w (word "g")) j

pub no_run : (ns ms : List ℕ) → length ms ≡ 0 → false ≡ joins (map letter ns) (map letter ms)
no_run ns [] e = joins_none (map letter ns)
no_run ns (m ∷ ms) e = absurd (omega arith)

-- a plain letter, by its number without the case
is_plain : (n b : ℕ) → b < 256 → eqb (n % 2048) b ≡ (eqb (n % 256) b && eqb (n / 256 % 8) 0)
is_plain n b h =
    eqb_case (λ t. t ≡ (eqb (n % 256) b && eqb (n / 256 % 8) 0)) (n % 2048) b
    (λ e. sym (ap₂ ◌&&◌ (eq-eqb (n % 256) b (omega arith)) (eq-eqb (n / 256 % 8) 0 (omega arith))))
    (λ d. eqb_case (λ t. false ≡ (t && eqb (n / 256 % 8) 0)) (n % 256) b (λ e. sym (ne_eqb (n / 256 % 8) 0 (λ f. d (omega arith)))) (λ _. refl))

-- what stands before the run, and the first of the run
abbrev joined : (x y : ℕ) → Bool → Bool
joined x y another = (eqb x (code "q") && eqb (y % 2048) (code "u")) || (eqb x (code "g") && (eqb (y % 256) (code "i") && another))

another : (ks : List ℕ) (r : ℕ) → r ≡ length ks → eqb r 0 ≡ is_nil (map letter ks)
another [] r e = eq-eqb r 0 e
another (k ∷ ks) r e = ne_eqb r 0 (omega arith)

-- one letter before, and a run of r letters past its first
module _ (ns ms : List ℕ) (r : ℕ) (one : length ns ≡ 1) (some : r + 1 ≡ length ms) where
  abbrev x : ℕ
  x = get_or ns 0 0 % 2048

  abbrev y : ℕ
  y = get_or ms 0 0

  abbrev gi : Bool
  gi = eqb (y % 256) (code "i") && not (eqb r 0)

  joined_is : joined x y (not (eqb r 0)) ≡ joins (map letter ns) (map letter ms)
  unfolding joins
  joined_is = go ns ms one some
    where
      go : (ns ms : List ℕ) → length ns ≡ 1 → r + 1 ≡ length ms → joined (get_or ns 0 0 % 2048) (get_or ms 0 0) (not (eqb r 0)) ≡ joins (map letter ns) (map letter ms)
      go [] ms e f = absurd (omega arith)
      go (n ∷ k ∷ ks) ms e f = absurd (omega arith)
      go (n ∷ []) [] e f = absurd (omega arith)
      go (n ∷ []) (m ∷ ms) e f =
          λ j. ((is_plain n (code "q") (omega arith) ∙ only _) j && is_plain m (code "u") (omega arith) j) || ((is_plain n (code "g") (omega arith) ∙ only _) j && (eqb (m % 256) (code "i") && not (another ms r (omega arith) j)))

  by : (q g : Bool) → eqb x (code "q") ≡ q → eqb x (code "g") ≡ g → ((q && eqb (y % 2048) (code "u")) || (g && gi)) ≡ joins (map letter ns) (map letter ms)
  by q g eq eg = (λ j. (sym eq j && eqb (y % 2048) (code "u")) || (sym eg j && gi)) ∙ joined_is

  pub after_q : x ≡ code "q" → eqb (y % 2048) (code "u") ≡ joins (map letter ns) (map letter ms)
  after_q e = sym (or-false _) ∙ by true false (eq-eqb x (code "q") e) (ne_eqb x (code "g") (omega arith))

  pub after_g : x ≡ code "g" → gi ≡ joins (map letter ns) (map letter ms)
  after_g e = by false true (ne_eqb x (code "q") (omega arith)) (eq-eqb x (code "g") e)

  pub neither : (x ≡ code "q" → ⊥) → (x ≡ code "g" → ⊥) → false ≡ joins (map letter ns) (map letter ms)
  neither m n = by false false (ne_eqb x (code "q") m) (ne_eqb x (code "g") n)
