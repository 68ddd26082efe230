-- `placing::face::place_face` meets its contract.
-- The stored root's list is the face's, and each call is ready for the next.
use mathlib.Core.Path.{sym, ◌∙◌}
use native.Mathlib.Omega.{arith}
use borrow.Author.Rules.{rules}
use Rattle.std.proofs.lemmas.Result.{err_from_is_err_and}
use Rattle.picking.proofs.Looking.{halves_low}
use Rattle.placing.proofs.FaceLaws.{some_of, none_of, area_fits, root_ready, root_list, is_chosen, face_none, face_place, face_lays, face_counts, face_done}
use Rattle.placing.proofs.face.place_face.Goals as goal

pub stretch-list-requires : goal.stretch-list-requires
stretch-list-requires c = root_ready c.store_lists-root.ensures c.requires

pub pick-requires : goal.pick-requires
pick-requires c = root_list c.store_lists-root.ensures c.requires c.stretch-list.ensures

pub returns-in_err-place : goal.returns-in_err-place
returns-in_err-place c =
    let p = err_from_is_err_and c.from_residual.result c.from_residual.ensures.1 in
    let none = none_of _ _ (sym c.ok_or.ensures.value ∙ c.in_err-place.was) in
    let chosen = is_chosen c.store_lists-root.ensures c.stretch-list.ensures c.pick.ensures in
    rw (p.1, p.2, none.1) (face_none chosen none.0 _)

pub item_at-z-requires : goal.item_at-z-requires
item_at-z-requires c =
    let some = some_of _ _ (sym c.ok_or.ensures.value ∙ c.in_ok-place.was) in
    let chosen = is_chosen c.store_lists-root.ensures c.stretch-list.ensures c.pick.ensures in
    face_place chosen some c.requires

pub overflow_cast-count : goal.overflow_cast-count
overflow_cast-count c =
    let some = some_of _ _ (sym c.ok_or.ensures.value ∙ c.in_ok-place.was) in
    let chosen = is_chosen c.store_lists-root.ensures c.stretch-list.ensures c.pick.ensures in
    record { fits = face_counts chosen some c.requires }

pub lay-requires : goal.lay-requires
lay-requires c =
    let some = some_of _ _ (sym c.ok_or.ensures.value ∙ c.in_ok-place.was) in
    let chosen = is_chosen c.store_lists-root.ensures c.stretch-list.ensures c.pick.ensures in
    face_lays chosen some c.requires

pub overflow_mul-result : goal.overflow_mul-result
overflow_mul-result c =
    let low = halves_low _ _ _ (search rules) c.m_of-height.ensures c.p_of-width.ensures in
    let high = low.0 in
    let wide = low.1 in
    record { fits = area_fits _ _ (omega arith) (omega arith) }

pub returns : goal.returns
returns c =
    let some = some_of _ _ (sym c.ok_or.ensures.value ∙ c.in_ok-place.was) in
    let chosen = is_chosen c.store_lists-root.ensures c.stretch-list.ensures c.pick.ensures in
    face_done chosen some c.requires c.item_at-z.ensures c.m_of-height.ensures c.p_of-width.ensures c.lay.ensures
