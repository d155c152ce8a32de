use Rattle.std.proofs.Common.{rules}
use Rattle.shelf.proofs.Drawers.{drawer_found}
use Rattle.shelf.proofs.store.Shelf.drawer.Goals as goal

pub returns : goal.returns
returns g c = drawer_found c.args.self.now.drawers c.args.at c.get.result _ (search rules) c.get.ensures.lookup c.ok_or.ensures.value
