-- `listing::list` lists a page of as many places as the table has, 4,096 at the most.
use Rattle.std.proofs.Common.{take}
use Rattle.files.proofs.Parts.{places_few}
use Rattle.listing.proofs.list.Goals as goal

pub list_page-requires : goal.list_page-requires
list_page-requires g c =
    let read = c.read_table-size in
    places_few (take read.result read.new.room) c.in_ok-places.was c.check.ensures
