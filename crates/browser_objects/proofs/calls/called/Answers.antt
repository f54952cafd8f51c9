use Rattle.browser_objects.proofs.calls.called.Goals as goal

pub returns-in-LaunchDocument-clause-answers : goal.returns-in-LaunchDocument-clause-answers
returns-in-LaunchDocument-clause-answers c = rw c.in-LaunchDocument.is (c.launch_document.ensures c.args.state.now)

pub returns-in-LockModuleOnMemory-clause-answers : goal.returns-in-LockModuleOnMemory-clause-answers
returns-in-LockModuleOnMemory-clause-answers c = rw c.in-LockModuleOnMemory.is (c.lock_module.ensures c.args.state.now)

pub returns-in-UnlockModuleOnMemory-clause-answers : goal.returns-in-UnlockModuleOnMemory-clause-answers
returns-in-UnlockModuleOnMemory-clause-answers c = rw c.in-UnlockModuleOnMemory.is (c.unlock_module.ensures c.args.state.now)

pub returns-in-PlayRomSound-clause-answers : goal.returns-in-PlayRomSound-clause-answers
returns-in-PlayRomSound-clause-answers c = rw c.in-PlayRomSound.is (c.play_sound.ensures c.args.state.now)

pub returns-in-OpenTable-clause-answers : goal.returns-in-OpenTable-clause-answers
returns-in-OpenTable-clause-answers c = rw c.in-OpenTable.is (c.ask_for_table.ensures c.args.state.now)
