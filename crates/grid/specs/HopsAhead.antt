-- The hops ahead by their parts: of an item of a stream, of a lane, and of the lanes of a link.
use Rattle.std.specs.Prelude.{ℕ, length}
use Rattle.routes.specs.Loads.{sum_below}
use Rattle.model.specs.Grid.{route_of, hops_from}
use Rattle.model.specs.Sums.{queue_sum, ahead}
use Rattle.grid.specs.declared.tables.Tables.{Tables}
use Rattle.grid.specs.Views.{streams_in, outline}

abbrev pub stream_ahead : Tables → ℕ → ℕ → ℕ
stream_ahead t link n = length (hops_from link (route_of (streams_in t n)))

abbrev pub lane_ahead : Tables → ℕ → ℕ → ℕ
lane_ahead t link lane = queue_sum (ahead (streams_in t) link) ((outline t).contents link lane)

abbrev pub link_ahead : Tables → ℕ → ℕ
link_ahead t link = sum_below t.lanes.size.lanes (lane_ahead t link)
