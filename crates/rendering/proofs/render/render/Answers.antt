-- `rendering::render::render` meets its contract.
-- The text takes at most `text_bytes`, so that all of it fits on the page; its four parts, written in turn, are it.
use borrow.Author.Rules.{rules}
use Rattle.text.proofs.Pages.{first_fits, rest_fits, both_wrote}
use Rattle.rendering.proofs.Bounds.{parts, renderable}
use Rattle.rendering.proofs.Faces.{all_fit, faces_printed, faces_counted}
use Rattle.rendering.proofs.render.render.Goals as goal

pub named-requires : goal.named-requires
unfolding parts
named-requires c =
    let given = renderable _ _ _ _ _ _ c.type_inv.items c.ranges.height c.ranges.width c.ranges.area c.type_inv.layout c.requires in
    first_fits _ _ _ (all_fit _ _ _ _ _ _ given _ c.new-page.ensures)

pub write_items-requires : goal.write_items-requires
unfolding parts
write_items-requires c =
    let given = renderable _ _ _ _ _ _ c.type_inv.items c.ranges.height c.ranges.width c.ranges.area c.type_inv.layout c.requires in
    first_fits _ _ _ (rest_fits _ _ _ _ c.named.ensures (all_fit _ _ _ _ _ _ given _ c.new-page.ensures))

pub write_best-requires : goal.write_best-requires
unfolding parts
write_best-requires c =
    let given = renderable _ _ _ _ _ _ c.type_inv.items c.ranges.height c.ranges.width c.ranges.area c.type_inv.layout c.requires in
    first_fits _ _ _
    (rest_fits _ _ _ _ c.write_items.ensures
    (rest_fits _ _ _ _ c.named.ensures (all_fit _ _ _ _ _ _ given _ c.new-page.ensures)))

pub write_gauges-requires : goal.write_gauges-requires
unfolding parts
write_gauges-requires c =
    let given = renderable _ _ _ _ _ _ c.type_inv.items c.ranges.height c.ranges.width c.ranges.area c.type_inv.layout c.requires in (
      c.requires.1,
      rest_fits _ _ _ _ c.write_best.ensures
          (rest_fits _ _ _ _ c.write_items.ensures
          (rest_fits _ _ _ _ c.named.ensures (all_fit _ _ _ _ _ _ given _ c.new-page.ensures))),
    )

pub returns : goal.returns
unfolding parts
returns c =
    let given = renderable _ _ _ _ _ _ c.type_inv.items c.ranges.height c.ranges.width c.ranges.area c.type_inv.layout c.requires in
    let all = both_wrote _ _ _ _ c.named.ensures _ (both_wrote _ _ _ _ c.write_items.ensures _ (both_wrote _ _ _ _ c.write_best.ensures _ c.write_gauges.ensures)) in
    record {
      printed = faces_printed _ _ _ _ _ _ given _ c.new-page.ensures _ all _ (search rules);
      counted = faces_counted _ _ _ _ _ _ given _ c.new-page.ensures _ all _ (search rules);
    }
