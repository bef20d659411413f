-- `letters::in_case` meets its contract: the code point in the letter's case.
use mathlib.Core.Path.{◌≡◌, ◌∙◌, sym, ap}
use mathlib.Core.Bool.{Bool}
use Prim.Native.Nat.{ℕ}
use Rattle.rules.specs.CodePoints.{in_case}
use Rattle.letters.proofs.in_case.Goals as goal

in_case_law : (p : ℕ) {r b c : Bool} → r ≡ b → r ≡ c → in_case c p ≡ in_case b p
in_case_law p e d = ap (λ (x : Bool). in_case x p) (sym d ∙ e)

pub returns-then-is_capital : goal.returns-then-is_capital
returns-then-is_capital c = c.capital_point.ensures ∙ in_case_law c.args.small c.is_capital.ensures c.if-is_capital.true

pub returns-else-is_capital : goal.returns-else-is_capital
returns-else-is_capital c = in_case_law c.args.small c.is_capital.ensures c.if-is_capital.false
