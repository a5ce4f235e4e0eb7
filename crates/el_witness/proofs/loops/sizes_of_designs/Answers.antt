use Rattle.el_witness.proofs.loops.sizes_of_designs.Goals as goal
use Rattle.el_witness.proofs.LoopRows as row

pub returns-clause-turns_count : goal.returns-clause-turns_count
returns-clause-turns_count c = row.turns_count

pub returns-clause-waits_512 : goal.returns-clause-waits_512
returns-clause-waits_512 c = row.waits_512

pub returns-clause-products_500 : goal.returns-clause-products_500
returns-clause-products_500 c = row.products_500

pub returns-clause-functions_17 : goal.returns-clause-functions_17
returns-clause-functions_17 c = row.functions_17
