-- Demands 2 and 3, whole; demand 1 is `demand_1` of proofs/Calls.antt.
use Rattle.channel.specs.Demand2.{Demand2}
use Rattle.channel.specs.Demand3.{Demand3}
use Rattle.channel.proofs.Answers.{answers, tallies}
use Rattle.channel.proofs.AnyOrder.{any_order}
use Rattle.channel.proofs.Never12.{never_12}
use Rattle.channel.proofs.Numbering.{counts_sum, enumerations, numbering, bit_of_coordinate, calls_undo}
use Rattle.channel.proofs.Records.{quantize_writes}
use Rattle.channel.proofs.Sent.{shown_as_sent, only_signs_change}
use Rattle.channel.proofs.Shown.{read_only_sent, valued_only_sent}
use Rattle.channel.proofs.ThreeCases.{cell_told}
use Rattle.channel.proofs.WholePage.{whole_page}

pub demand_2 : Demand2
demand_2 = record {
  counts = counts_sum;
  enumerations = enumerations;
  numbering = numbering;
  bits = bit_of_coordinate;
  calls_undo = calls_undo;
  quantize_writes = quantize_writes;
  answers = answers;
  tallies = tallies;
}

pub demand_3 : Demand3
demand_3 = record {
  a = any_order;
  b = cell_told;
  never_12 = never_12;
  c = shown_as_sent;
  d = only_signs_change;
  e_read = read_only_sent;
  e_valued = valued_only_sent;
  whole_page = whole_page;
}
