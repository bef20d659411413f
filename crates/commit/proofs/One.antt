-- One possible result: any two results that a contract allows at the same arguments are equal; of a returned part, its bytes and where it begins.
use mathlib.Core.Path.{◌≡◌, sym, ◌∙◌}
use contract.Lifetimes.{Lfts}
use denote.Triple.Entry.{Args, Res}
use denote.Triple.Clauses.{AtExit}
use Rattle.commit.specs.contracts.rule as rule
use Rattle.commit.proofs.rule.Reads as rule-reads
use Rattle.commit.specs.contracts.commit as commit
use Rattle.commit.proofs.commit.Reads as commit-reads
use Rattle.commit.specs.contracts.answer as answer
use Rattle.commit.proofs.answer.Reads as answer-reads

pub rule_one : (κs : Lfts 2) (a : Args rule.signature κs) (r r' : Res rule.signature κs) (e e' : AtExit rule.ended κs) → rule-reads.Post κs a r e → rule-reads.Post κs a r' e' → r ≡ r'
rule_one κs a r r' e e' p p' = p ∙ sym p'

pub commit_one : (κs : Lfts 1) (a : Args commit.signature κs) (r r' : Res commit.signature κs) (e e' : AtExit commit.ended κs) → commit-reads.Post κs a r e → commit-reads.Post κs a r' e' → (r.now ≡ r'.now) × (r.ref_ptr ≡ r'.ref_ptr)
commit_one κs a r r' e e' p p' = (p.0 ∙ sym p'.0, p.1 ∙ sym p'.1)

pub answer_one : (κs : Lfts 2) (a : Args answer.signature κs) (r r' : Res answer.signature κs) (e e' : AtExit answer.ended κs) → answer-reads.Post κs a r e → answer-reads.Post κs a r' e' → r ≡ r'
answer_one κs a r r' e e' p p' = p ∙ sym p'
