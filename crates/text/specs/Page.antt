-- Writing text on a page. Assumes nothing.
use Rattle.std.specs.Prelude.{◌≡◌, List, ℕ}
use Rattle.text.specs.declared.Page.{Page}
use Rattle.text.specs.Text.{Put}

-- `text` is put from the page's place on, over the same bytes
pub record Writes (text : List ℕ) (before after : Page) : Type 0 where
  pub same : after.out.ghost_name ≡ before.out.ghost_name
  pub put : Put text before.out.now before.at after.at after.out.now
