-- What a loop that writes line after line keeps: the lines left fit on the page, and what writes them there completes all.
-- A turn writes the first line left, and lines that are written in turn are written together.
use mathlib.Core.List.{List, [], ◌++◌}
use Rattle.text.specs.declared.page.Page.{Page}
use Rattle.text.specs.inside.Writing.{Fits, Wrote}
use Rattle.text.proofs.Pages.{wrote_nothing, first_fits, rest_fits, both_wrote}

-- The values `left` are due on the page `now`: they fit, and what writes them there completes `all` on the page `old`.
pub record Due {A : Type 0} (old : Page A) (all left : List A) (now : Page A) : Type 0 where
  pub fits : Fits now left
  pub rest : (new : Page A) → Wrote now left new → Wrote old all new

module _ {A : Type 0} (old : Page A) (all : List A) where
  pub due_start : Fits old all → Due old all all old
  due_start f = record { fits = f; rest = λ new s. s }

  module _ (line left : List A) (now : Page A) (s : Due old all (line ++ left) now) where
    pub due_fits : Fits now line
    due_fits = first_fits now line left s.fits

    pub due_more : (new : Page A) → Wrote now line new → Due old all left new
    due_more new t =
        record {
          fits = rest_fits now line left new t s.fits;
          rest = λ last u. s.rest last (both_wrote now line left new t last u);
        }

  pub due_done : (now : Page A) → Due old all [] now → Wrote old all now
  due_done now s = s.rest now (wrote_nothing now)
