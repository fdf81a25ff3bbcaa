use Rattle.std.proofs.Common.{◌≡◌, map, drop, string_bytes}
use Rattle.io_edge.specs.Outside.{file_named}
use Rattle.io_edge.proofs.memory_opener.SureOpenerOpener.load.Given as goal

abbrev pub invariant-loop-file : goal.invariant-loop-file
invariant-loop-file l = file_named (map (λ file. (string_bytes file.0, file.1.items)) l.file-items) l.name ≡ file_named (map (λ file. (string_bytes file.0, file.1.items)) (drop l.file-index l.file-items)) l.name
