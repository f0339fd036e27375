use Rattle.part_laws.proofs.one_page.OnePage.{one_page}
use Rattle.part_laws.proofs.pages.Goals as goal

pub returns : goal.returns
returns c = one_page
