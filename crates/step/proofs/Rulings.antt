-- What the rule for a tone key says, case by case, as the code asks.
use mathlib.Core.Path.{◌≡◌, ap, ap₂}
use mathlib.Core.Bool.{Bool, not}
use Prim.Native.Nat.{ℕ}
use borrow.Author.Tests.{eq-eqb, ne_eqb}
use Rattle.rules.specs.Letters.{Letter, no_tone}
use Rattle.rules.specs.TheWord.{State, Done, acted, undone}
use Rattle.rules.specs.KeyRoles.{is_added, undo, with_tone, undo_if, act_if, tone_goes, tone_does}
use Rattle.rules.specs.declared.Touched.TheVariants.{NoLetter}
use Rattle.rules.specs.declared.Act.TheVariants.{Tone, Clear}
use Rattle.rules.specs.declared.ToneKey.TheVariants.{SetTone, ClearTone}

module _ (s : State) (k : Letter) where
  pub clear_none : s.tone ≡ no_tone → tone_does ClearTone s k ≡ is_added s k
  clear_none e = ap (λ (b : Bool). act_if (not b) Clear (with_tone s no_tone) (is_added s k)) (eq-eqb s.tone no_tone e)

  pub clear_acts : (s.tone ≡ no_tone → ⊥) → tone_does ClearTone s k ≡ acted Clear NoLetter (with_tone s no_tone)
  clear_acts n = ap (λ (b : Bool). act_if (not b) Clear (with_tone s no_tone) (is_added s k)) (ne_eqb s.tone no_tone n)

  abbrev ruled : ℕ → Bool → Bool → Done
  ruled t there goes = undo_if there (undo (with_tone s no_tone) k) (act_if goes (Tone t) (with_tone s t) (is_added s k))

  pub tone_undone : (t : ℕ) → s.tone ≡ t → tone_does (SetTone t) s k ≡ undone NoLetter (undo (with_tone s no_tone) k)
  tone_undone t e = ap (λ (b : Bool). ruled t b (tone_goes t s.letters)) (eq-eqb s.tone t e)

  pub tone_not_there : (t : ℕ) (goes : Bool) → (s.tone ≡ t → ⊥) → tone_goes t s.letters ≡ goes → tone_does (SetTone t) s k ≡ act_if goes (Tone t) (with_tone s t) (is_added s k)
  tone_not_there t goes n g = ap₂ (ruled t) (ne_eqb s.tone t n) g
