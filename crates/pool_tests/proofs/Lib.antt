mod Simulated
