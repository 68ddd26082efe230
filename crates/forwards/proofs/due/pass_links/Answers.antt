-- `forwards::due::pass_links` meets its contract.
-- The loop keeps `Passing`, that the record was due with its links from k up and that these are passed.
use Rattle.std.proofs.Common.{rules}
use Rattle.forwards.proofs.Decisions.{no_yes}
use Rattle.forwards.proofs.LinkLaws.{passing_start, passing_more, passing_not, passing_met, passing_due, passing_sums}
use Rattle.forwards.proofs.due.pass_links.Goals as goal

pub loop-k-init : goal.loop-k-init
loop-k-init c = search (rules, passing_start)

pub returns-then-due-k : goal.returns-then-due-k
returns-then-due-k c =
    record {
      decides = search (rules, passing_not);
      passed = λ yes. no_yes yes;
      renewed = λ yes. no_yes yes;
    }

pub loop-k-preserved : goal.loop-k-preserved
loop-k-preserved c = search (rules, passing_more)

pub returns : goal.returns
returns c =
    record {
      decides = search (rules, passing_met);
      passed = λ _. search (rules, passing_due);
      renewed = λ _. search (rules, passing_sums);
    }
