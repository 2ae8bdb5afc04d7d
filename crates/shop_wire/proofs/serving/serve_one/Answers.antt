use Rattle.shop_wire.proofs.serving.serve_one.Goals as goal

pub returns-in-Err-clause-write : goal.returns-in-Err-clause-write
returns-in-Err-clause-write g c = λ e. absurd (cc e)
