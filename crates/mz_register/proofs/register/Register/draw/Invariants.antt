use Rattle.mz_register.proofs.register.Register.draw.Given as goal

abbrev pub ghosts-draw_as : goal.ghosts-draw_as
ghosts-draw_as g a = record { event = a.event }
