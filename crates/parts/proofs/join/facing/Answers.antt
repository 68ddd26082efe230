-- `parts::join::facing` meets its contract.
-- A list that is turned stands turned at the spare head, by the contract of `turn`, and any other is left as it is.
use Rattle.parts.proofs.TurnedPart.{facing_ready, facing_across, facing_along}
use Rattle.parts.proofs.join.facing.Goals as goal

pub turn-requires : goal.turn-requires
turn-requires c = facing_ready _ _ _ c.requires

pub returns-then-runs_across : goal.returns-then-runs_across
returns-then-runs_across c = facing_across _ _ _ _ _ _ c.runs_across.ensures c.if-runs_across.true c.turn.ensures

pub returns : goal.returns
returns c = facing_along _ _ _ _ _ c.runs_across.ensures c.if-runs_across.false
