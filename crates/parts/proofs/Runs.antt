-- The run of vowel letters or of others at the front of a list is as long as the first place of another kind says.
use mathlib.Core.Bool.{beq}
use Rattle.std.proofs.Common.{◌≡◌, ◌∙◌, ap, refl, map, length, ℕ, ◌+◌, ◌%◌, Bool, true, false, not, cond, List, [], ◌∷◌, arith}
use Rattle.std.specs.List.{position_or_len}
use Rattle.rules.specs.Letters.{Letter, Letters}
use Rattle.rules.specs.TheWord.{letter}
use Rattle.rules.specs.TakingApart.{vowel, is_kind, front_if, front}

kind : (v r : Bool) (b : ℕ) → r ≡ vowel b → is_kind v b ≡ beq r v
kind true true b e = rw (← e)
kind true false b e = rw (← e)
kind false true b e = rw (← e)
kind false false b e = rw (← e)

-- a letter of another kind
abbrev pub other : Bool → ℕ → Bool
other v n = not (beq (vowel (n % 256)) v)

step : (t : Bool) (x : Letter) (w : Letters) (n : ℕ) → length w ≡ n → length (front_if t x w) ≡ cond (not (not t)) (1 + n) 0
step true x w n e = omega arith
step false x w n e = refl

pub run_length : (v : Bool) (s : List ℕ) → length (front v (map letter s)) ≡ position_or_len (other v) s
run_length v [] = refl
run_length v (x ∷ xs) =
    ap (λ (t : Bool). length (front_if t (letter x) (front v (map letter xs)))) (kind v (vowel (x % 256)) (x % 256) refl) ∙
    step (beq (vowel (x % 256)) v) (letter x) (front v (map letter xs)) _ (run_length v xs)
