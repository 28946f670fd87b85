-- `listing::inner::input::take_records` takes nothing where there is no file.
use Rattle.listing.proofs.Blocks.{took_none}
use Rattle.listing.proofs.inner.input.take_records.Goals as goal

pub returns-in-None : goal.returns-in-None
returns-in-None g c = (took_none c.args.table.now c.args.page.now).took
