-- `rendering::render::render_refused` meets its contract.
-- The word and the number are the line, and it fits on the page.
use native.Mathlib.Omega.{arith}
use borrow.Author.Rules.{rules}
use Rattle.rendering.proofs.Faces.{refused_fits, refused_printed, refused_counted}
use Rattle.rendering.proofs.render.render_refused.Goals as goal

pub named-requires : goal.named-requires
named-requires c = refused_fits _ (omega arith) _ c.requires _ c.new-page.ensures

pub returns : goal.returns
returns c =
    record {
      printed = refused_printed _ (omega arith) _ c.requires _ c.new-page.ensures _ c.named.ensures _ (search rules);
      counted = refused_counted _ (omega arith) _ c.requires _ c.new-page.ensures _ c.named.ensures _ (search rules);
    }
