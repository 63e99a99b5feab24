-- How large a program is, and how long its image.
use Rattle.std.specs.Prelude.{ℕ, ◌+◌, ◌*◌, ◌^◌, ◌<◌, ◌≤◌, List, map, length}
use Rattle.ir_code.specs.Program as machine
use Rattle.ir_ssa.specs.Tree.{Program}
use Rattle.ir_ssa.specs.Size.{nodes_funs}
use Rattle.ssa_tree.specs.Exceptions.{exceptions}
use Rattle.machine_routines.specs.Sizes.{shapes_nodes}
use Rattle.machine_code.specs.Sizes.{sets_nodes, words_of}
use Rattle.machine_code.specs.Image.{text_of}
use Rattle.image_law.specs.ImageOf.{IsImageOf}

abbrev pub words : machine.Program → ℕ
words image = length image.constants + 4 * length image.code

-- the nodes of its functions, the parts of its types, the members of its sets, the exceptions of the initial basis, and its strings and the texts of its
-- exceptions, one for each byte and one more
abbrev pub parts : List (List ℕ) → Program → ℕ
parts names p =
    nodes_funs p.funs + shapes_nodes p.tables.types + sets_nodes p.tables.sets + length p.tables.initial + words_of p.tables.strings
    + words_of (map (text_of names) (exceptions p))

abbrev pub ImagesAreSmall : Type 0
ImagesAreSmall = (names : List (List ℕ)) (p : Program) (image : machine.Program) → IsImageOf names p image → words image ≤ 42 + 44 * parts names p

-- more words than an image may have, and more nodes than a program is let through with
abbrev pub LongMeansLarge : Type 0
LongMeansLarge = (names : List (List ℕ)) (p : Program) (image : machine.Program) → IsImageOf names p image → 2 ^ 27 < words image → 2 ^ 20 < parts names p
