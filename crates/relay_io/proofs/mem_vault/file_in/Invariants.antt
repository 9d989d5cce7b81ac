use Rattle.std.proofs.Common.{◌≡◌, length, map}
use Rattle.relay_io.specs.Files.{file_of}
use Rattle.relay_io.proofs.mem_vault.file_in.Given as goal

-- what is left of the files gives what all of them give
abbrev pub invariant-files : goal.invariant-files
invariant-files l = file_of l.name (map (λ f. (f.0, f.1.items)) l.files) ≡ file_of l.name (map (λ f. (f.0, f.1.items)) l.rest)

abbrev pub decreases-files : goal.decreases-files
decreases-files l = length l.rest
