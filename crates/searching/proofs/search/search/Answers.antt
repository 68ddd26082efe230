-- `searching::search::search` meets its contract: the cut of the list for the key, with its adjusts.
-- The loop keeps `Going`, and its measure is the present link and the records left together.
use Rattle.std.proofs.Common.{refl, sym, ◌∙◌, rules}
use Rattle.searching.proofs.SearchLaws.{going_start, going_has, going_jump, going_lower, going_less, going_done}
use Rattle.searching.proofs.search.search.Goals as goal

pub loop-i-init : goal.loop-i-init
loop-i-init c =
    (going_start _ _ _ _ _ _ c.requires.searchable.0 (c.requires.links_few, search rules, search rules), refl)

pub get-next-requires : goal.get-next-requires
get-next-requires c = (c.loop-i.invariant.0.has, search rules)

pub may_pass-requires : goal.may_pass-requires
may_pass-requires c =
    (going_has _ _ _ _ _ _ _ _ _ _ _ c.loop-i.invariant.0 c.loop-i-test.true c.get-next.ensures, search rules)

pub loop-i-smaller-then-may_pass : goal.loop-i-smaller-then-may_pass
loop-i-smaller-then-may_pass c =
    going_less _ _ _ _ _ _ _ _ _ _ _ c.loop-i.invariant.0 c.loop-i-test.true c.get-next.ensures (sym c.may_pass.ensures ∙ c.if-may_pass.true)

pub loop-i-preserved-then-may_pass : goal.loop-i-preserved-then-may_pass
loop-i-preserved-then-may_pass c =
    (going_jump _ _ _ _ _ _ _ _ _ _ _ c.loop-i.invariant.0 c.loop-i-test.true c.get-next.ensures (sym c.may_pass.ensures ∙ c.if-may_pass.true), c.loop-i.invariant.1)

pub get-requires : goal.get-requires
get-requires c = (c.loop-i.invariant.0.has, search rules)

pub loop-i-preserved : goal.loop-i-preserved
loop-i-preserved c =
    (going_lower _ _ _ _ _ _ _ _ _ _ _ c.loop-i.invariant.0 c.loop-i-test.true c.get-next.ensures (sym c.may_pass.ensures ∙ c.if-may_pass.false) _ c.get.ensures, c.loop-i.invariant.1)

pub returns : goal.returns
returns c =
    record {
      links_same = c.loop-i.invariant.1;
      cut = going_done _ _ _ _ _ _ _ _ _ _ c.loop-i.invariant.0 (search rules);
    }
