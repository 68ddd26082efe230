-- `forwards::due::none_due` meets its contract.
-- The test of each word from link 1 up says whether all of them are 0.
use Rattle.std.proofs.Common.{◌≡◌, rules, tests}
use Rattle.std.proofs.lemmas.Iterator.{YieldsList-from_slice, cases_from_all}
use Rattle.forwards.proofs.LinkLaws.{words, all_free}
use Rattle.forwards.proofs.due.none_due.Goals as goal

pub returns : goal.returns
returns c =
    all_free c.args.due.now c.requires c.all.result
    (cases_from_all _ _ _ (λ x. x ≡ 0) (λ x. x ≡ 0 → ⊥) c.all.ensures.ran
    (YieldsList-from_slice (words c.args.due.now c.requires) cc) (λ x q k. search (rules, tests)) (λ x q k. search (rules, tests)))
