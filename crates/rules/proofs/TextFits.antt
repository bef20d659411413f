-- A text has at most three bytes a letter, and that of any record in range fits 96 bytes.
use Rattle.std.specs.Prelude.{Option, Some, None}
use mathlib.Core.Path.{◌≡◌, refl, ap}
use mathlib.Core.Bool.{Bool, true, false}
use mathlib.Core.List.{List, [], ◌∷◌}
use Prim.Native.Nat.{ℕ, zero, suc, ◌+◌, ◌*◌, ◌/◌, ◌%◌, ◌≤◌}
use native.Mathlib.Omega.{arith}
use lib.Dec.{ltb, lit≤}
use lib.ListN.{length, length-append, length-map, length-take}
use Rattle.rules.specs.Letters.{Letters}
use Rattle.rules.specs.TheWord.{State, most_keys, most_bytes, word_of}
use Rattle.rules.specs.TonePlace.{tone_place}
use Rattle.rules.specs.CodePoints.{Sign, point, utf8, bytes, without_tone, tone_at, signs_at, shown}
use Rattle.rules.specs.Refusals.{out_of_range}
use Rattle.rules.specs.declared.Word.{Word}
use Rattle.rules.proofs.Range.{few_letters}

-- a code point takes at most three bytes
three_bytes : (c : ℕ) → length (utf8 c) ≤ 3
three_bytes c = go (ltb c 0x80) (ltb c 0x800)
  where
    go : (p q : Bool) → length {A = ℕ} (elim p [
      | true ↦ c ∷ []
      | false ↦ elim q [ true ↦ (0xC0 + c / 64) ∷ (0x80 + c % 64) ∷ [] | false ↦ (0xE0 + c / 4096) ∷ (0x80 + c / 64 % 64) ∷ (0x80 + c % 64) ∷ [] ]
    ]) ≤ 3
    go true q = lit≤ tt
    go false true = lit≤ tt
    go false false = lit≤ tt

three_each : (ss : List Sign) → length (bytes ss) ≤ 3 * length ss
three_each [] = omega arith
three_each (s ∷ ss) = let here = three_bytes (point s) in let more = three_each ss in simp length-append (omega arith)

-- as many letters are shown as the word has
toneless : (w : Letters) → length (without_tone w) ≡ length w
toneless [] = refl
toneless (x ∷ xs) = ap suc (toneless xs)

toned : (n t : ℕ) (w : Letters) → length (tone_at n t w) ≡ length w
toned n t [] = refl
toned zero t (x ∷ xs) = ap suc (toneless xs)
toned (suc n) t (x ∷ xs) = ap suc (toned n t xs)

each_shown : (p : Option ℕ) (t : ℕ) (w : Letters) → length (signs_at p t w) ≡ length w
each_shown (Some n) t w = toned n t w
each_shown None t w = toneless w

pub three_a_letter : (s : State) → length (shown s) ≤ 3 * length s.letters
three_a_letter s =
    let p = tone_place s.letters s.tone in
    omega (arith, three_each (signs_at p s.tone s.letters), each_shown p s.tone s.letters)

pub few_bytes : (s : State) → length s.letters ≤ most_keys → length (shown s) ≤ most_bytes
few_bytes s h = omega (arith, three_a_letter s)

pub text_fits : (w : Word) → out_of_range w ≡ false → length (shown (word_of w).state) ≤ most_bytes
text_fits w e =
    let few = few_letters w e in
    let short : length (word_of w).state.letters ≤ most_keys = simp (length-map, length-take) (omega arith) in
    few_bytes (word_of w).state short
