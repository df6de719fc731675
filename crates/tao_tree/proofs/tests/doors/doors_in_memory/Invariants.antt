use Rattle.tao_tree.proofs.tests.doors.doors_in_memory.Given as goal

-- the parameters of the tree at hand
abbrev pub ghosts-through_doors : goal.ghosts-through_doors
ghosts-through_doors g a = record { shape = a.tree.shape }
