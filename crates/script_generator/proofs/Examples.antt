-- A script as it is written.
use Rattle.std.proofs.Common.{◌≡◌, ◌++◌, codes, refl}
use Rattle.std.specs.Fmt.{digits}
use Rattle.script_generator.specs.Scripts.{generated}

script_of_7 : generated 7 1 ≡ codes "pool p max 3 min 0\ngroup g\ntimer t tick in p group g cancel gone\n"
    ++ (codes "work w1 body in p priority high group g cancel gone\nwork w2 body in p priority low group g cancel gone\nwork w3 body in p priority normal group g cancel gone\nwork w4 body in p priority low group g cancel gone\nwork w5 body in p priority normal group g cancel gone\n"
    ++ (codes "routine body\ndone\nroutine tick\ndone\nroutine gone\ndone\n"
    ++ (codes "client\nsubmit w5\ndone\nclient\nwait w1 cancel\ndone\nclient\nsubmit w3\ndone\nclient\nset-timer t -500 1 0\ntimes 1 advance 1\nclose-members g cancel 7\ndone\n")))
unfolding generated digits
script_of_7 = refl
