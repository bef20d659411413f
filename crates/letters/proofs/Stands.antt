-- Whatever is decoded is a letter of the alphabet whose bytes stand there; so what the code decodes is what the definition finds.
use mathlib.Core.Path.{◌≡◌, refl, sym, ap, ap₂, subst, ◌∙◌}
use mathlib.Core.Bool.{Bool, true, false, not, ◌&&◌, ◌||◌}
use mathlib.Core.List.{List, [], ◌∷◌, ◌++◌}
use Prim.Native.Nat.{ℕ, suc, ◌+◌, ◌/◌, ◌%◌, ◌<◌, ◌≤◌, suc-le-suc}
use Prim.Native.Char.{code}
use native.Mathlib.Nat.{add-zero}
use native.Mathlib.Omega.{arith}
use lib.Dec.{T, eqb, eqb→eq, leb, ltb}
use lib.ListN.{length, get_or}
use lib.Ieee.Fits.{and_l, and_r, eq→eqb}
use borrow.Author.Tests.{eqb-true, lt-ltb, le-ltb, leb-true}
use Rattle.rules.specs.Letters.{no_tone, telex, named}
use Rattle.rules.specs.KeyRoles.{is_key, letter_of_key}
use Rattle.rules.specs.CodePoints.{Sign, sign, capital_point, point, utf8}
use Rattle.rules.specs.Speller.{starts, Front, no_letter, a_letter}
use Rattle.letters.specs.Alphabet.{in_alphabet}
use Rattle.letters.specs.Rows.{point_table, cased, sign_of}
use Rattle.letters.specs.Decoding.{found_in, found, follows_on, one_byte, least_lead, InTwo, point_of_two, two_bytes, least_point, InThree, point_of_three, three_bytes}
use Rattle.rules.proofs.Tables.{each_below, below}
use Rattle.letters.proofs.Points.{Right, right_at}
use Rattle.letters.proofs.Decodes.{in_two, in_three}

-- a code point looked up: none, or a letter of the alphabet with that code point
data Sought (c : ℕ) : Front → Type 0 where
  missing : Sought c no_letter
  there : {s : Sign} → T (in_alphabet s) → point s ≡ c → Sought c (a_letter s)

sought_in : (c k : ℕ) (xs : List ℕ) → ((j : ℕ) → j < length xs → Right (k + j) (get_or xs j 0)) → Sought c (found_in c k xs)
sought_in c k [] h = missing
sought_in c k (p ∷ ps) h =
    go (eqb p c) (eqb (capital_point p) c) refl refl (subst (λ (m : ℕ). Right m p) (add-zero k) (h 0 (omega arith)))
    (sought_in c (suc k) ps (λ j l. subst (λ (m : ℕ). Right m (get_or ps j 0)) (omega arith) (h (suc j) (suc-le-suc l))))
  where
    go : (b d : Bool) → eqb p c ≡ b → eqb (capital_point p) c ≡ d → Right k p → {f : Front} → Sought c f
        → Sought c (elim b [ true ↦ a_letter (sign_of false k) | false ↦ elim d [ true ↦ a_letter (sign_of true k) | false ↦ f ] ])
    go true d e g r s = there r.small.known (r.small.point_is ∙ eqb-true p c e)
    go false true e g r s = there r.capital.known (r.capital.point_is ∙ eqb-true (capital_point p) c g)
    go false false e g r s = s

sought : (c : ℕ) → Sought c (found c)
unfolding found in_alphabet point_table
sought c = go (eqb c 0x111) (eqb c 0x110) refl refl (sought_in c 0 point_table (λ j l. subst (λ (m : ℕ). Right m (get_or point_table j 0)) (omega arith) (right_at j l)))
  where
    go : (b d : Bool) → eqb c 0x111 ≡ b → eqb c 0x110 ≡ d → {f : Front} → Sought c f
        → Sought c (elim b [ true ↦ a_letter (sign (named (code "đ")) no_tone) | false ↦ elim d [ true ↦ a_letter (sign (cased true (named (code "đ"))) no_tone) | false ↦ f ] ])
    go true d e g s = there tt (sym (eqb-true c 0x111 e))
    go false true e g s = there tt (sym (eqb-true c 0x110 g))
    go false false e g s = s

-- an ASCII letter: computed over the 128 bytes
abbrev ascii : ℕ → Bool
ascii a = not (is_key telex a) || (in_alphabet (sign (letter_of_key a) no_tone) && eqb (point (sign (letter_of_key a) no_tone)) a)

all_ascii : T (each_below ascii 0x80)
unfolding in_alphabet
all_ascii = tt

sought_one : (a : ℕ) → a < 0x80 → Sought a (one_byte a)
sought_one a l = go (is_key telex a) (below ascii 0x80 all_ascii a l)
  where
    go : (b : Bool) → T (not b || (in_alphabet (sign (letter_of_key a) no_tone) && eqb (point (sign (letter_of_key a) no_tone)) a))
        → Sought a (elim b [ true ↦ a_letter (sign (letter_of_key a) no_tone) | false ↦ no_letter ])
    go true t =
        there (and_l (in_alphabet (sign (letter_of_key a) no_tone)) (eqb (point (sign (letter_of_key a) no_tone)) a) t)
        (eqb→eq (point (sign (letter_of_key a) no_tone)) a (and_r (in_alphabet (sign (letter_of_key a) no_tone)) (eqb (point (sign (letter_of_key a) no_tone)) a) t))
    go false t = missing

-- what stands at the front of a text, with the number of its bytes
pub data Stands (n : ℕ) (bs : List ℕ) : Front → Type 0 where
  none_there : Stands n bs no_letter
  one_there : {s : Sign} → T (in_alphabet s) → T (starts (utf8 (point s)) bs) → length (utf8 (point s)) ≡ n → Stands n bs (a_letter s)

starts_own : (u rest : List ℕ) → T (starts u (u ++ rest))
starts_own [] rest = tt
starts_own (c ∷ u) rest = go (eqb c c) (eq→eqb {a = c} refl) (starts_own u rest)
  where
    go : (b : Bool) → T b → T (starts u (u ++ rest)) → T (elim b [ true ↦ starts u (u ++ rest) | false ↦ false ])
    go true t v = v
    go false t v = t

stands : {c : ℕ} {f : Front} (u rest : List ℕ) → Sought c f → utf8 c ≡ u → Stands (length u) (u ++ rest) f
stands u rest missing e = none_there
stands u rest (there k d) e =
    one_there k (subst (λ (v : List ℕ). T (starts v (u ++ rest))) (sym (ap utf8 d ∙ e)) (starts_own u rest)) (ap length (ap utf8 d ∙ e))

-- the bytes of a decoded code point are those that were decoded
utf8_one : (a : ℕ) → a < 0x80 → utf8 a ≡ a ∷ []
utf8_one a l = rw (utf8, lt-ltb a 0x80 l)

utf8_two : (a b : ℕ) → a < 0xE0 → InTwo a b → utf8 (point_of_two a b) ≡ a ∷ b ∷ []
utf8_two a b l h =
    let p : ℕ = point_of_two a b in
    let x : 0xC0 + p / 64 ≡ a = omega arith in
    let y : 0x80 + p % 64 ≡ b = omega arith in
    rw (utf8, le-ltb (point_of_two a b) 0x80 (omega arith), lt-ltb (point_of_two a b) 0x800 (omega arith)) (ap₂ (λ (v w : ℕ). v ∷ w ∷ []) x y)

utf8_three : (a b c : ℕ) → 0xE0 ≤ a → InThree a b c → least_point ≤ point_of_three a b c → utf8 (point_of_three a b c) ≡ a ∷ b ∷ c ∷ []
utf8_three a b c l h k =
    let p : ℕ = point_of_three a b c in
    let x : 0xE0 + p / 4096 ≡ a = omega arith in
    let y : 0x80 + p / 64 % 64 ≡ b = omega arith in
    let z : 0x80 + p % 64 ≡ c = omega arith in
    rw (utf8, le-ltb (point_of_three a b c) 0x80 (omega arith), le-ltb (point_of_three a b c) 0x800 (omega arith)) (λ j. x j ∷ y j ∷ z j ∷ [])

pub stands_one : (a : ℕ) (bs : List ℕ) → a < 0x80 → Stands 1 (a ∷ bs) (one_byte a)
stands_one a bs l = stands (a ∷ []) bs (sought_one a l) (utf8_one a l)

pub stands_two : (a b : ℕ) (bs : List ℕ) → a < 0xE0 → Stands 2 (a ∷ b ∷ bs) (two_bytes a b)
stands_two a b bs l = go (leb least_lead a && follows_on b) refl
  where
    go : (t : Bool) → leb least_lead a && follows_on b ≡ t → Stands 2 (a ∷ b ∷ bs) (elim t [ true ↦ found (point_of_two a b) | false ↦ no_letter ])
    go true e = stands (a ∷ b ∷ []) bs (sought (point_of_two a b)) (utf8_two a b l (in_two a b e))
    go false e = none_there

pub stands_three : (a b c : ℕ) (bs : List ℕ) → 0xE0 ≤ a → Stands 3 (a ∷ b ∷ c ∷ bs) (three_bytes a b c)
stands_three a b c bs l = go (ltb a 0xF0 && (follows_on b && follows_on c)) (leb least_point (point_of_three a b c)) refl refl
  where
    go : (t v : Bool) → ltb a 0xF0 && (follows_on b && follows_on c) ≡ t → leb least_point (point_of_three a b c) ≡ v
        → Stands 3 (a ∷ b ∷ c ∷ bs) (elim t [ true ↦ elim v [ true ↦ found (point_of_three a b c) | false ↦ no_letter ] | false ↦ no_letter ])
    go true true e d = stands (a ∷ b ∷ c ∷ []) bs (sought (point_of_three a b c)) (utf8_three a b c l (in_three a b c e) (leb-true least_point (point_of_three a b c) d))
    go true false e d = none_there
    go false v e d = none_there
