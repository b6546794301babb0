mod Heads
