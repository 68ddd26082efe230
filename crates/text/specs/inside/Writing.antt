-- What a function asks that writes values on a page, and what it leaves. No public contract cites it.
use Rattle.std.specs.Prelude.{◌≡◌, List, ◌+◌, ◌≤◌, length}
use Rattle.text.specs.declared.page.Page.{Page}
use Rattle.text.specs.inside.Appending.{Appended}

-- The page has room for the values.
pub record Fits {A : Type 0} (page : Page A) (values : List A) : Type 0 where
  pub room : page.at + length values ≤ length page.buffer.now

-- They were appended on it: the page lies on the same buffer, at the place after them.
pub record Wrote {A : Type 0} (old : Page A) (values : List A) (new : Page A) : Type 0 where
  pub same : new.buffer.ghost_name ≡ old.buffer.ghost_name
  pub appended : Appended old.buffer.now old.at values new.buffer.now new.at
