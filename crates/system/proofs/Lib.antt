mod OneRun
