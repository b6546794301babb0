-- What a listing that ends early comes to.
use Rattle.std.specs.Prelude.{Result, Ok, Err, alloc_error}
use Rattle.std.specs.declared.alloc.AllocError.{AllocError}
use Rattle.faults.specs.Reports.{route_report}
use Rattle.faults.specs.declared.report.Report.{Report}
use Rattle.listing.specs.declared.stop.Stop.{Stop}
use Rattle.listing.specs.declared.stop.Stop.TheVariants.{Fault, Memory}

-- the fault's report, or that memory is lacking
abbrev pub reported : Stop → Result Report AllocError
reported (Fault f) = Ok (route_report f)
reported Memory = Err alloc_error
