use Rattle.tao_tree.proofs.tests.memory.links_in_memory.Given as goal

-- the parameters of the tree at hand
abbrev pub ghosts-in_memory : goal.ghosts-in_memory
ghosts-in_memory g a = record { shape = a.tree.shape }
