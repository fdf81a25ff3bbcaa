-- What the forms in memory tell, and which of their calls are to fail.
use Rattle.std.specs.Prelude.{ℕ, List, Option, Some, None, if◌then◌else◌}
use Rattle.io_edge.specs.declared.memory_source.MemSource.{MemSource}
use Rattle.io_edge.specs.declared.memory_sink.SureSink.{SureSink}
use Rattle.io_edge.specs.declared.memory_sink.MemSink.{MemSink}
use Rattle.io_edge.specs.declared.memory_opener.MemOpener.{MemOpener}
use Rattle.io_edge.specs.declared.room_sink.RoomSink.{RoomSink}

-- what a sink holds, until it has found no memory
abbrev pub held_by : SureSink → Option (List ℕ)
held_by sink = if sink.tells then Some sink.bytes.items else None

-- the numbers of the calls that are to fail, from 0
abbrev pub failing_takes : MemSource → List ℕ
failing_takes source = source.failing.numbers.items

abbrev pub failing_gives : MemSink → List ℕ
failing_gives sink = sink.failing.numbers.items

abbrev pub failing_room_gives : RoomSink → List ℕ
failing_room_gives sink = sink.failing.numbers.items

abbrev pub failing_loads : MemOpener → List ℕ
failing_loads opener = opener.failing.numbers.items
